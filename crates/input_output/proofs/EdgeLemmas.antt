-- Counts that rise, bytes that a sink gained, names in a list.
use Rattle.std.proofs.Common.{◌≡◌, ◌≢◌, ℕ, ◌+◌, ◌-◌, ◌≤◌, true, false, cond, List, [], ◌∷◌, ◌++◌, Option, None, Some, refl, ap, ◌∙◌, inl, arith, append_assoc, add-zero, nat_eq}
use Rattle.std.specs.Cmp.Lexicographic.{pointwise, bytes_decides}
use Rattle.std.proofs.lemmas.List.Sums.{sum_by_push}
use Rattle.std.proofs.lemmas.Bool.{false_from_ne_true}
use Rattle.input_output.specs.Bytes.{Gains}
use Rattle.input_output.specs.Faults.{Rose, count_of}

pub Rose-earlier : (a b c : ℕ) → a ≤ b → Rose b c → Rose a c
Rose-earlier a b c earlier rose = grind arith

-- a piece after another
pub Gains-append : (a b c : Option (List ℕ)) (x y : List ℕ) → Gains a b x → Gains b c y → Gains a c (x ++ y)
Gains-append None b c x y first second = rw first at second
Gains-append (Some bytes) b c x y first second = (rw first at second) ∙ ap Some (append_assoc bytes x y)

-- a name that is added is counted once more
pub Rose-push : (old new : List (List ℕ)) (name : List ℕ) → new ≡ old ++ name ∷ [] → Rose (count_of old name) (count_of new name)
Rose-push old new name pushed =
    let test : pointwise nat_eq name name ≡ true = (bytes_decides name name).1 refl in
    let counted : count_of new name ≡ count_of old name + 1 =
    ap (λ names. count_of names name) pushed ∙ (sum_by_push (λ x. cond (pointwise nat_eq name x) 1 0) old name ∙ ap (λ b. count_of old name + cond b 1 0) test) in
    inl (omega arith)

-- and no other name is
pub count_of-push_other : (old new : List (List ℕ)) (name other : List ℕ) → new ≡ old ++ name ∷ [] → other ≢ name → count_of new other ≡ count_of old other
count_of-push_other old new name other pushed differ =
    let test : pointwise nat_eq other name ≡ false = false_from_ne_true _ (λ same. differ ((bytes_decides other name).0 same)) in
    ap (λ names. count_of names other) pushed
    ∙ (sum_by_push (λ x. cond (pointwise nat_eq other x) 1 0) old name
    ∙ (ap (λ b. count_of old other + cond b 1 0) test ∙ add-zero _))
