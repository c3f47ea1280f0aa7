-- Clauses in the written order.
use Rattle.std.proofs.Common.{◌≡◌, ℕ, ◌<◌, List, [], ◌∷◌, ◌++◌, inl, inr, ◌↔◌, Contains, refl, sym, subst, ap, ◌∙◌, arith}
use Rattle.std_lemmas.proofs.Booleans.{not_same}
use Rattle.std_lemmas.proofs.Lists.{Contains-head, Contains-later, Contains-none, Contains-cases}
use Rattle.propositional_logic.specs.Literal.{Literal, negated}
use Rattle.propositional_logic.specs.Clause.{IsRisingFrom, IsClause, IsTautology}

-- a literal of a rising list has a variable above where the list begins
pub rising_above : (n : ℕ) (xs : List Literal) (l : Literal) → IsRisingFrom n xs → Contains xs l → n < l.var
rising_above n [] l r h = absurd (Contains-none l h)
rising_above n (x ∷ xs) l r h =
    elim (Contains-cases x xs l h) [
      | inl e ↦ subst (λ (m : Literal). n < m.var) e r.0
      | inr m ↦ let k = rising_above x.var xs l r.1 m in let f = r.0 in omega arith
    ]

-- its literals of one variable are one
pub rising_distinct : (n : ℕ) (xs : List Literal) (l m : Literal) → IsRisingFrom n xs → Contains xs l → Contains xs m → l.var ≡ m.var → l ≡ m
rising_distinct n [] l m r h k e = absurd (Contains-none l h)
rising_distinct n (x ∷ xs) l m r h k e =
    elim (Contains-cases x xs l h) [
      | inl p ↦ elim (Contains-cases x xs m k) [
        | inl q ↦ sym p ∙ q
        | inr q ↦ let f : x.var < m.var = rising_above x.var xs m r.1 q in let g : x.var ≡ l.var = ap (λ (a : Literal). a.var) p in absurd (omega arith)
      ]
      | inr p ↦ elim (Contains-cases x xs m k) [
        | inl q ↦ let f : x.var < l.var = rising_above x.var xs l r.1 p in let g : x.var ≡ m.var = ap (λ (a : Literal). a.var) q in absurd (omega arith)
        | inr q ↦ rising_distinct x.var xs l m r.1 p q e
      ]
    ]

-- a literal of a higher variable may follow
pub rising_push : (n : ℕ) (xs : List Literal) (l : Literal) → IsRisingFrom n xs → n < l.var → ((m : Literal) → Contains xs m → m.var < l.var) → IsRisingFrom n (xs ++ l ∷ [])
rising_push n [] l r f h = (f, tt)
rising_push n (x ∷ xs) l r f h = (r.0, rising_push x.var xs l r.1 (h x (Contains-head x xs)) (λ m k. h m (Contains-later x xs m k)))

first_var : (x y : Literal) → x ≡ y → x.var ≡ y.var
first_var x y e = ap (λ (a : Literal). a.var) e

firsts_agree : (n m : ℕ) (x y : Literal) (xs ys : List Literal) → IsRisingFrom n (x ∷ xs) → IsRisingFrom m (y ∷ ys)
    → ((l : Literal) → Contains (x ∷ xs) l ↔ Contains (y ∷ ys) l) → x ≡ y
firsts_agree n m x y xs ys r s h =
    elim (Contains-cases y ys x ((h x).0 (Contains-head x xs))) [
      | inl e ↦ sym e
      | inr p ↦ elim (Contains-cases x xs y ((h y).1 (Contains-head y ys))) [
        | inl e ↦ e
        | inr q ↦ let f : y.var < x.var = rising_above y.var ys x s.1 p in let g : x.var < y.var = rising_above x.var xs y r.1 q in absurd (omega arith)
      ]
    ]

rest_within : (x y : Literal) (xs ys : List Literal) → x ≡ y → x.var ≡ y.var → IsRisingFrom x.var xs
    → ((l : Literal) → Contains (x ∷ xs) l → Contains (y ∷ ys) l) → (l : Literal) → Contains xs l → Contains ys l
rest_within x y xs ys e g r h l p =
    elim (Contains-cases y ys l (h l (Contains-later x xs l p))) [
      | inl s ↦ let f : x.var < l.var = rising_above x.var xs l r p in let k : y.var ≡ l.var = first_var y l s in absurd (omega arith)
      | inr q ↦ q
    ]

-- two rising lists with the same literals are one
pub rising_one : (n : ℕ) (a b : List Literal) → IsRisingFrom n a → IsRisingFrom n b → ((l : Literal) → Contains a l ↔ Contains b l) → a ≡ b
rising_one n [] [] r s h = refl
rising_one n [] (y ∷ ys) r s h = absurd (Contains-none y ((h y).1 (Contains-head y ys)))
rising_one n (x ∷ xs) [] r s h = absurd (Contains-none x ((h x).0 (Contains-head x xs)))
rising_one n (x ∷ xs) (y ∷ ys) r s h =
    let first = firsts_agree n n x y xs ys r s h in
    let g = first_var x y first in
    let over = rest_within x y xs ys first g r.1 (λ l. (h l).0) in
    let back = rest_within y x ys xs (sym first) (sym g) s.1 (λ l. (h l).1) in
    let t : IsRisingFrom x.var ys = subst (λ (k : ℕ). IsRisingFrom k ys) (sym g) s.1 in
    let rest = rising_one x.var xs ys r.1 t (λ l. (over l, back l)) in
    λ i. first i ∷ rest i

pub no_tautology : (a : List Literal) → IsClause a → IsTautology a → ⊥
no_tautology a r h =
    let l = h.1 in
    let same = rising_distinct 0 a (negated l) l r h.4 (h.0, h.2, h.3) refl in
    not_same l.positive (ap (λ (m : Literal). m.positive) same)
