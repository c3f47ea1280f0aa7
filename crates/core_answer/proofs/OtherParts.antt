-- The parts of what comes without each guarantee, one after the other.
use Rattle.std.proofs.Common.{◌≡◌, ℕ, suc, ◌+◌, ◌<◌, ◌≤◌, List, [], ◌∷◌, ◌++◌, Vec, Global, length, get_or, map, drop, refl, sym, ap, ◌∙◌, arith, append_assoc}
use Rattle.std.proofs.Math.Seq.{drop-cons}
use Rattle.std.proofs.lemmas.List.{append-nil, drop_all, length-map}
use Rattle.std.specs.Prelude.{codes}
use Rattle.core_answer.specs.Core.{document_part, numbered_line, without_parts}

-- the part of a guarantee
abbrev pub other_part : ℕ → List ℕ → List ℕ
other_part n bytes = numbered_line (codes "without") n ++ document_part bytes

one_part : (n : ℕ) (ns : List ℕ) (bytes : List ℕ) (others : List (List ℕ)) → without_parts (n ∷ ns) (bytes ∷ others) ≡ other_part n bytes ++ without_parts ns others
one_part n ns bytes others = refl

none_left : (ns : List ℕ) → without_parts ns [] ≡ []
none_left [] = refl
none_left (n ∷ ns) = refl

-- the documents as contracts see them
abbrev pub seen : List (Vec ℕ Global) → List (List ℕ)
seen others = map (λ o. o.items) others

pub past_others : (ns : List ℕ) (others : List (Vec ℕ Global)) (place : ℕ) (start bytes : List ℕ) → length others ≤ place
    → start ++ without_parts ns (seen others) ≡ bytes ++ without_parts (drop place ns) (drop place (seen others)) → bytes ≡ start ++ without_parts ns (seen others)
past_others ns others place start bytes past so_far =
    let long : length (seen others) ≡ length others = length-map others (λ o. o.items) in
    let none : drop place (seen others) ≡ [] = drop_all place (seen others) (omega arith) in
    sym (so_far ∙ ap (λ os. bytes ++ without_parts (drop place ns) os) none ∙ ap (λ more. bytes ++ more) (none_left (drop place ns)) ∙ append-nil bytes)

pub next_other : (ns : List ℕ) (others : List (Vec ℕ Global)) (place : ℕ) (start bytes new : List ℕ) (n : ℕ) (other : List ℕ) → place < length ns → place < length others
    → get_or ns place 0 ≡ n → get_or (seen others) place [] ≡ other
    → start ++ without_parts ns (seen others) ≡ bytes ++ without_parts (drop place ns) (drop place (seen others)) → new ≡ bytes ++ other_part n other
    → start ++ without_parts ns (seen others) ≡ new ++ without_parts (drop (place + 1) ns) (drop (place + 1) (seen others))
next_other ns others place start bytes new n other in_ns in_others at_n at_other so_far made =
    let long : length (seen others) ≡ length others = length-map others (λ o. o.items) in
    let up : suc place ≡ place + 1 = omega arith in
    let first : drop place ns ≡ n ∷ drop (place + 1) ns = drop-cons ns place 0 in_ns ∙ ap (λ m. m ∷ drop (suc place) ns) at_n ∙ ap (λ k. n ∷ drop k ns) up in
    let second : drop place (seen others) ≡ other ∷ drop (place + 1) (seen others) =
    drop-cons (seen others) place [] (omega arith) ∙ ap (λ o. o ∷ drop (suc place) (seen others)) at_other ∙ ap (λ k. other ∷ drop k (seen others)) up in
    so_far ∙ ap (λ ms. bytes ++ without_parts ms (drop place (seen others))) first ∙ ap (λ os. bytes ++ without_parts (n ∷ drop (place + 1) ns) os) second
    ∙ ap (λ more. bytes ++ more) (one_part n (drop (place + 1) ns) other (drop (place + 1) (seen others)))
    ∙ sym (append_assoc bytes (other_part n other) (without_parts (drop (place + 1) ns) (drop (place + 1) (seen others))))
    ∙ ap (λ xs. xs ++ without_parts (drop (place + 1) ns) (drop (place + 1) (seen others))) (sym made)
