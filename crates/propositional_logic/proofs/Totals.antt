-- The list of the literals that a total assignment makes true.
use Rattle.std.proofs.Common.{◌≡◌, ℕ, suc, zero, ◌+◌, ◌-◌, ◌<◌, ◌≤◌, Bool, true, false, List, [], ◌∷◌, ◌++◌, Some, slice_get, unwrap_or, length, Contains, refl, sym, subst, ap, ◌∙◌, append_assoc, length-append, arith}
use Rattle.std.proofs.lemmas.List.Elements.{All-nil, All-cons, All-contains}
use Rattle.std.proofs.lemmas.Option.{slice_get-get_or, unwrap_or-slice_get}
use Rattle.std_lemmas.proofs.Lists.{Contains-head, Contains-later}
use Rattle.propositional_logic.specs.Literal.{Literal, sign_eq}
use Rattle.propositional_logic.specs.Truth.{value_of, is_true_literal}
use Rattle.propositional_logic.specs.Partial.{AgreesWith, literals_from}
use Rattle.propositional_logic.specs.Equality.{Decides-sign_eq}

at_end : (pre : List Bool) (b : Bool) (bs : List Bool) → slice_get (pre ++ b ∷ bs) (length pre) ≡ Some b
at_end [] b bs = refl
at_end (p ∷ ps) b bs = at_end ps b bs

value_at : (pre : List Bool) (b : Bool) (bs : List Bool) → value_of (pre ++ b ∷ bs) (length pre + 1) ≡ b
value_at pre b bs =
    let e : (length pre + 1) - 1 ≡ length pre = omega arith in
    ap (λ k. unwrap_or (slice_get (pre ++ b ∷ bs) k) false) e ∙ ap (λ o. unwrap_or o false) (at_end pre b bs)

pub agrees : (pre bs : List Bool) → AgreesWith (pre ++ bs) (literals_from (length pre) bs)
agrees pre [] = All-nil (λ l. is_true_literal (pre ++ []) l ≡ true)
agrees pre (b ∷ bs) =
    All-cons (λ l. is_true_literal (pre ++ b ∷ bs) l ≡ true) (record { var = length pre + 1; positive = b }) (literals_from (length pre + 1) bs)
    (ap (sign_eq b) (value_at pre b bs) ∙ (Decides-sign_eq b b).1 refl)
    (subst (λ n. AgreesWith (pre ++ b ∷ bs) (literals_from n bs)) (length-append pre (b ∷ []))
    (subst (λ vs. AgreesWith vs (literals_from (length (pre ++ b ∷ [])) bs)) (append_assoc pre (b ∷ []) bs) (agrees (pre ++ b ∷ []) bs)))

-- the literal of each variable
stands : (n : ℕ) (bs : List Bool) (k : ℕ) (b : Bool) → slice_get bs k ≡ Some b → Contains (literals_from n bs) (record { var = n + 1 + k; positive = b })
stands n [] k b h = absurd (cc)
stands n (c ∷ bs) zero b h =
    let e : n + 1 ≡ n + 1 + 0 = omega arith in
    let s : c ≡ b = cc in
    subst (Contains (literals_from n (c ∷ bs))) (λ i. record { var = e i; positive = s i }) (Contains-head (record { var = n + 1; positive = c }) (literals_from (n + 1) bs))
stands n (c ∷ bs) (suc k) b h =
    let e : (n + 1) + 1 + k ≡ n + 1 + suc k = omega arith in
    Contains-later (record { var = n + 1; positive = c }) (literals_from (n + 1) bs) (record { var = n + 1 + suc k; positive = b })
    (subst (λ v. Contains (literals_from (n + 1) bs) (record { var = v; positive = b })) e (stands (n + 1) bs k b h))

pub one_each : (values : List Bool) (l : Literal) → 0 < l.var → l.var ≤ length values
    → (is_true_literal values l ≡ true → Contains (literals_from 0 values) l) × (Contains (literals_from 0 values) l → is_true_literal values l ≡ true)
one_each values l low high = (over, All-contains (λ m. is_true_literal values m ≡ true) (literals_from 0 values) l (agrees [] values))
  where
    over : is_true_literal values l ≡ true → Contains (literals_from 0 values) l
    over h =
        let same = (Decides-sign_eq l.positive (value_of values l.var)).0 h in
        let back : value_of values l.var ≡ l.positive = sym same in
        let at : slice_get values (l.var - 1) ≡ Some (value_of values l.var) =
        slice_get-get_or values (l.var - 1) false (omega arith) ∙ ap Some (sym (unwrap_or-slice_get values (l.var - 1) false)) in
        let e : 0 + 1 + (l.var - 1) ≡ l.var = omega arith in
        subst (Contains (literals_from 0 values)) (λ i. record { var = e i; positive = back i }) (stands 0 values (l.var - 1) (value_of values l.var) at)
