use Rattle.std.proofs.Common.{◌≡◌, ℕ, suc, ◌+◌, ◌<◌, ◌≤◌, List, [], ◌∷◌, ◌++◌, length, get_or, take, refl, sym, ap, ◌∙◌, arith, Option, Some, None}
use Rattle.std.specs.Prelude.{flat_map, decimal}
use Rattle.std.proofs.lemmas.List.{append-nil, append_assoc, length-take-le, take_more, take_all}
use Rattle.aiger_text.specs.declared.symbols.Named.{Named}
use Rattle.aiger_text.specs.CircuitText.{text_of_lines, numbers_line, name_lines}

-- the numbers of a line behind the first, each with the space before it
abbrev pub with_spaces : List ℕ → List ℕ
with_spaces numbers = flat_map (λ n. 32 ∷ decimal n) numbers

pub numbers_line-cons : (first : ℕ) (others : List ℕ) → numbers_line (first ∷ others) ≡ decimal first ++ with_spaces others
numbers_line-cons first [] = sym (append-nil (decimal first))
numbers_line-cons first (n ∷ others) = ap (λ (line : List ℕ). decimal first ++ (32 ∷ line)) (numbers_line-cons n others)

pub text_of_lines-append : (xs ys : List (List ℕ)) → text_of_lines (xs ++ ys) ≡ text_of_lines xs ++ text_of_lines ys
text_of_lines-append [] ys = refl
text_of_lines-append (x ∷ xs) ys =
    ap (λ (t : List ℕ). (x ++ 10 ∷ []) ++ t) (text_of_lines-append xs ys) ∙ sym (append_assoc (x ++ 10 ∷ []) (text_of_lines xs) (text_of_lines ys))

-- one more line at the end of a text
pub text_more : (old text new : List ℕ) (lines more : List (List ℕ)) → text ≡ old ++ text_of_lines lines → new ≡ text ++ text_of_lines more
    → new ≡ old ++ text_of_lines (lines ++ more)
text_more old text new lines more before here =
    here ∙ ap (λ (t : List ℕ). t ++ text_of_lines more) before ∙ append_assoc old (text_of_lines lines) (text_of_lines more)
    ∙ ap (λ (t : List ℕ). old ++ t) (sym (text_of_lines-append lines more))

pub name_lines-append : (named : Named) (from : ℕ) (names : List (Option (List ℕ))) (name : Option (List ℕ))
    → name_lines named from (names ++ name ∷ []) ≡ name_lines named from names ++ name_lines named (from + length names) (name ∷ [])
name_lines-append named from [] name = let e : from ≡ from + 0 = omega arith in ap (λ n. name_lines named n (name ∷ [])) e
name_lines-append named from (None ∷ names) name =
    let e : from + 1 + length names ≡ from + suc (length names) = omega arith in
    name_lines-append named (from + 1) names name ∙ ap (λ n. name_lines named (from + 1) names ++ name_lines named n (name ∷ [])) e
name_lines-append named from (Some x ∷ names) name =
    let e : from + 1 + length names ≡ from + suc (length names) = omega arith in
    ap (λ (lines : List (List ℕ)). name_lines named from (Some x ∷ []) ++ lines)
    (name_lines-append named (from + 1) names name ∙ ap (λ n. name_lines named (from + 1) names ++ name_lines named n (name ∷ [])) e)

pub names_more : (named : Named) (names : List (Option (List ℕ))) (i : ℕ) (old text new : List ℕ) → i < length names
    → text ≡ old ++ text_of_lines (name_lines named 0 (take i names)) → new ≡ text ++ text_of_lines (name_lines named i (get_or names i None ∷ []))
    → new ≡ old ++ text_of_lines (name_lines named 0 (take (i + 1) names))
names_more named names i old text new h before here =
    let place : 0 + length (take i names) ≡ i = omega (arith, length-take-le i names (omega arith)) in
    text_more old text new (name_lines named 0 (take i names)) (name_lines named i (get_or names i None ∷ [])) before here
    ∙ ap (λ (lines : List (List ℕ)). old ++ text_of_lines lines)
    (ap (λ n. name_lines named 0 (take i names) ++ name_lines named n (get_or names i None ∷ [])) (sym place)
    ∙ sym (name_lines-append named 0 (take i names) (get_or names i None)) ∙ ap (name_lines named 0) (sym (take_more names i None h)))

-- a line of numbers with its end
pub line_done : (old text new : List ℕ) (first : ℕ) (others : List ℕ) (i : ℕ) → length others ≤ i
    → text ≡ old ++ (decimal first ++ with_spaces (take i others)) → new ≡ text ++ 10 ∷ [] → new ≡ old ++ text_of_lines (numbers_line (first ∷ others) ∷ [])
line_done old text new first others i h before here =
    here ∙ ap (λ (t : List ℕ). t ++ 10 ∷ []) (before ∙ ap (λ (ns : List ℕ). old ++ (decimal first ++ with_spaces ns)) (take_all i others h))
    ∙ append_assoc old (decimal first ++ with_spaces others) (10 ∷ [])
    ∙ ap (λ (t : List ℕ). old ++ (t ++ 10 ∷ [])) (sym (numbers_line-cons first others))
    ∙ ap (λ (t : List ℕ). old ++ t) (sym (append-nil (numbers_line (first ∷ others) ++ 10 ∷ [])))
