-- The level of a variable, and the highest one of a clause.
use Rattle.std.proofs.Common.{◌≡◌, ◌≢◌, ℕ, ◌<◌, ◌≤◌, nat_eq, Bool, true, false, cond, List, [], ◌∷◌, inl, inr, Some, filter, slice_get, length, Contains, All, refl, sym, subst, ap, ◌∙◌, true≢false, arith}
use Rattle.std.proofs.lemmas.Bool.Decides.{Decides-eqb}
use Rattle.std.proofs.lemmas.Bool.{cases_lt}
use Rattle.std.proofs.lemmas.List.Elements.{All-contains, All-tail}
use Rattle.std_lemmas.proofs.Naturals.{lt_trichotomy}
use Rattle.std_lemmas.proofs.Lists.{Contains-head, Contains-later, Contains-none, Contains-cases, Contains-slice_get}
use Rattle.propositional_logic.specs.Literal.{Literal}
use Rattle.propositional_logic.specs.Clause.{IsRisingFrom}
use Rattle.propositional_logic.proofs.Members.{filter-none}
use Rattle.propositional_logic.proofs.Rising.{rising_above}
use Rattle.unit_propagate.specs.declared.marks.Mark.{Mark}
use Rattle.unit_propagate.specs.Trail.{IsTrail}
use Rattle.unit_propagate.proofs.Places.{AllPairs-slice_get}
use Rattle.unit_propagate.proofs.TrailLemmas.{one_each}
use Rattle.unit_propagate.proofs.PropagatorLemmas.{same_literal}
use Rattle.conflict_learn.specs.Learnt.{level_in, clause_level}

-- one place for each variable
pub same_place : (vars : ℕ) (marks : List Mark) (i j : ℕ) (m n : Mark) → IsTrail vars marks → slice_get marks i ≡ Some m → slice_get marks j ≡ Some n → m.lit.var ≡ n.lit.var → i ≡ j
same_place vars marks i j m n t p q e = elim (lt_trichotomy i j) [
  | inl a ↦ absurd (AllPairs-slice_get (λ (x y : Mark). x.lit.var ≢ y.lit.var) marks i j m n t.once a p q e)
  | inr b ↦ elim b [
    | inl s ↦ s
    | inr c ↦ absurd (AllPairs-slice_get (λ (x y : Mark). x.lit.var ≢ y.lit.var) marks j i n m t.once c q p (sym e))
  ]
]

pub same_mark : (marks : List Mark) (i j : ℕ) (m n : Mark) → i ≡ j → slice_get marks i ≡ Some m → slice_get marks j ≡ Some n → m ≡ n
same_mark marks i j m n e p q = let r : slice_get marks j ≡ Some m = subst (λ k. slice_get marks k ≡ Some m) e p in cc

-- levels never fall
pub level_up : (vars : ℕ) (marks : List Mark) (i j : ℕ) (m n : Mark) → IsTrail vars marks → i ≤ j → slice_get marks i ≡ Some m → slice_get marks j ≡ Some n → m.level ≤ n.level
level_up vars marks i j m n t le p q = elim (lt_trichotomy i j) [
  | inl a ↦ AllPairs-slice_get (λ (x y : Mark). x.level ≤ y.level) marks i j m n t.rising a p q
  | inr b ↦ elim b [ inl s ↦ (let e : m.level ≡ n.level = ap (λ (x : Mark). x.level) (same_mark marks i j m n s p q) in omega arith) | inr c ↦ absurd (omega arith) ]
]

-- the level of a literal's variable
level_found : (marks : List Mark) (v : ℕ) (m : Mark) → Contains marks m → m.lit.var ≡ v → ((n : Mark) → Contains marks n → n.lit.var ≡ v → n ≡ m) → level_in marks v ≡ m.level
level_found [] v m c e one = absurd (Contains-none m c)
level_found (x ∷ xs) v m c e one = by (nat_eq x.lit.var v) refl (λ d. level_found xs v m d e (λ n k. one n (Contains-later x xs n k)))
  where
    by : (b : Bool) → nat_eq x.lit.var v ≡ b → (Contains xs m → level_in xs v ≡ m.level) → cond b x.level (level_in xs v) ≡ m.level
    by true s r = ap (λ (k : Mark). k.level) (one x (Contains-head x xs) ((Decides-eqb x.lit.var v).0 s))
    by false s r = elim (Contains-cases x xs m c) [
      | inl q ↦ absurd (true≢false (sym ((Decides-eqb x.lit.var v).1 (ap (λ (k : Mark). k.lit.var) q ∙ e)) ∙ s))
      | inr d ↦ r d
    ]

pub level_at : (vars : ℕ) (marks : List Mark) (i : ℕ) (m : Mark) (v : ℕ) → IsTrail vars marks → slice_get marks i ≡ Some m → m.lit.var ≡ v → level_in marks v ≡ m.level
level_at vars marks i m v t at e =
    level_found marks v m (Contains-slice_get marks i m at) e (λ n c s. one_each vars marks n m t c (Contains-slice_get marks i m at) (s ∙ sym e))

-- no value: level 0
pub level_none : (marks : List Mark) (v : ℕ) → All (λ (m : Mark). m.lit.var ≢ v) marks → level_in marks v ≡ 0
level_none [] v h = refl
level_none (x ∷ xs) v h = by (nat_eq x.lit.var v) refl (level_none xs v (All-tail (λ (m : Mark). m.lit.var ≢ v) x xs h))
  where
    by : (b : Bool) → nat_eq x.lit.var v ≡ b → level_in xs v ≡ 0 → cond b x.level (level_in xs v) ≡ 0
    by true s r = absurd (All-contains (λ (m : Mark). m.lit.var ≢ v) (x ∷ xs) x h (Contains-head x xs) ((Decides-eqb x.lit.var v).0 s))
    by false s r = r

-- the highest level of a clause bounds each, and is one of them
pub clause_above : (marks : List Mark) (c : List Literal) (l : Literal) → Contains c l → level_in marks l.var ≤ clause_level marks c
clause_above marks [] l h = absurd (Contains-none l h)
clause_above marks (x ∷ xs) l h = elim (Contains-cases x xs l h) [
  | inl e ↦ (let s : level_in marks x.var ≡ level_in marks l.var = ap (λ (k : Literal). level_in marks k.var) e in omega arith)
  | inr r ↦ (let s : level_in marks l.var ≤ clause_level marks xs = clause_above marks xs l r in omega arith)
]

pub clause_attains : (marks : List Mark) (c : List Literal) → 0 < clause_level marks c → (l : Literal) × Contains c l × (level_in marks l.var ≡ clause_level marks c)
clause_attains marks [] h = absurd (omega arith)
clause_attains marks (x ∷ xs) h = elim (cases_lt (level_in marks x.var) (clause_level marks xs)) [
  | inl lt ↦ let k = clause_attains marks xs (omega arith) in let e : level_in marks k.0.var ≡ clause_level marks xs = k.2 in (k.0, Contains-later x xs k.0 k.1, omega arith)
  | inr ge ↦ (x, Contains-head x xs, omega arith)
]

-- exactly one literal of a clause passes a test
pub one_passes : (n : ℕ) (p : Literal → Bool) (c : List Literal) (x : Literal) → IsRisingFrom n c → Contains c x → p x ≡ true → ((y : Literal) → Contains c y → y ≢ x → p y ≡ false)
    → length (filter p c) ≡ 1
one_passes n p [] x r m t f = absurd (Contains-none x m)
one_passes n p (y ∷ ys) x r m t f = elim (same_literal y x) [
  | inl e ↦
      let none = filter-none p ys (λ z c. f z (Contains-later y ys z c) (λ s. let a : y.var < z.var = rising_above y.var ys z r.1 c in let b : y.var ≡ z.var = ap (λ (k : Literal). k.var) (e ∙ sym s) in omega arith)) in
      ap (λ b. length (cond b (y ∷ filter p ys) (filter p ys))) (ap p e ∙ t) ∙ ap (λ zs. length (y ∷ zs)) none
  | inr k ↦
      let there : Contains ys x = elim (Contains-cases y ys x m) [ inl s ↦ absurd (k s) | inr c ↦ c ] in
      ap (λ b. length (cond b (y ∷ filter p ys) (filter p ys))) (f y (Contains-head y ys) k) ∙ one_passes y.var p ys x r.1 there t (λ z c. f z (Contains-later y ys z c))
]
