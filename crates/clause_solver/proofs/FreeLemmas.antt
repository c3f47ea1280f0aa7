-- How many variables have no value.
use Rattle.std.proofs.Common.{◌≡◌, ◌≢◌, ℕ, suc, zero, ◌<◌, ◌≤◌, nat_eq, Bool, true, false, ◌||◌, List, [], ◌∷◌, ◌++◌, inl, inr, refl, sym, subst, ap, ◌∙◌, arith}
use Rattle.std.specs.List.{list_any}
use Rattle.std.proofs.lemmas.Bool.{cases_lt}
use Rattle.std.proofs.lemmas.Bool.Decides.{Decides-eqb}
use Rattle.std.proofs.lemmas.List.Elements.{All-head, All-tail}
use Rattle.unit_propagate.specs.declared.marks.Mark.{Mark}
use Rattle.unit_propagate.specs.Trail.{IsFree}
use Rattle.clause_solver.specs.Free.{has_value, vacancy, free_count}

any-append : {X : Type 0} (p : X → Bool) (xs ys : List X) → list_any p (xs ++ ys) ≡ (list_any p xs || list_any p ys)
any-append p [] ys = refl
any-append p (x ∷ xs) ys = ap (λ b. p x || b) (any-append p xs ys) ∙ assoc (p x) (list_any p xs) (list_any p ys)
  where
    assoc : (a b c : Bool) → (a || (b || c)) ≡ ((a || b) || c)
    assoc true b c = refl
    assoc false b c = refl

vacancy-or : (a b : Bool) → vacancy (a || b) ≤ vacancy a
vacancy-or true b = omega arith
vacancy-or false true = omega arith
vacancy-or false false = omega arith

-- a variable that has a value keeps it
stays_valued : (marks more : List Mark) (var : ℕ) → vacancy (has_value (marks ++ more) var) ≤ vacancy (has_value marks var)
stays_valued marks more var =
    subst (λ b. vacancy b ≤ vacancy (has_value marks var)) (sym (any-append (λ (m : Mark). nat_eq m.lit.var var) marks more)) (vacancy-or (has_value marks var) (has_value more var))

-- a longer trail leaves no more variables without a value
pub free-longer : (n : ℕ) (marks more : List Mark) → free_count n (marks ++ more) ≤ free_count n marks
free-longer zero marks more = omega arith
free-longer (suc n) marks more =
    let a : vacancy (has_value (marks ++ more) (suc n)) ≤ vacancy (has_value marks (suc n)) = stays_valued marks more (suc n) in
    let b : free_count n (marks ++ more) ≤ free_count n marks = free-longer n marks more in
    omega arith

not_valued : (marks : List Mark) (var : ℕ) → IsFree marks var → has_value marks var ≡ false
not_valued [] var f = refl
not_valued (m ∷ ms) var f = by (nat_eq m.lit.var var) refl (not_valued ms var (All-tail (λ (x : Mark). x.lit.var ≢ var) m ms f))
  where
    by : (b : Bool) → nat_eq m.lit.var var ≡ b → has_value ms var ≡ false → (b || has_value ms var) ≡ false
    by true e rest = absurd (All-head (λ (x : Mark). x.lit.var ≢ var) m ms f ((Decides-eqb m.lit.var var).0 e))
    by false e rest = rest

now_valued : (marks : List Mark) (m : Mark) (var : ℕ) → m.lit.var ≡ var → has_value (marks ++ m ∷ []) var ≡ true
now_valued marks m var e =
    any-append (λ (x : Mark). nat_eq x.lit.var var) marks (m ∷ []) ∙ ap (λ b. has_value marks var || (b || false)) ((Decides-eqb m.lit.var var).1 e) ∙ last (has_value marks var)
  where
    last : (b : Bool) → (b || (true || false)) ≡ true
    last true = refl
    last false = refl

-- and one more literal of a variable without a value leaves fewer
pub free-push : (n : ℕ) (marks : List Mark) (m : Mark) → 0 < m.lit.var → m.lit.var ≤ n → IsFree marks m.lit.var → free_count n (marks ++ m ∷ []) < free_count n marks
free-push zero marks m low high f = absurd (omega arith)
free-push (suc n) marks m low high f = elim (cases_lt m.lit.var (suc n)) [
  | inl lt ↦
      let a : vacancy (has_value (marks ++ m ∷ []) (suc n)) ≤ vacancy (has_value marks (suc n)) = stays_valued marks (m ∷ []) (suc n) in
      let b : free_count n (marks ++ m ∷ []) < free_count n marks = free-push n marks m low (omega arith) f in
      omega arith
  | inr ge ↦
      let e : m.lit.var ≡ suc n = omega arith in
      let a : vacancy (has_value (marks ++ m ∷ []) (suc n)) ≡ vacancy true = ap vacancy (now_valued marks m (suc n) e) in
      let c : vacancy (has_value marks (suc n)) ≡ vacancy false = ap vacancy (not_valued marks (suc n) (subst (IsFree marks) e f)) in
      let b : free_count n (marks ++ m ∷ []) ≤ free_count n marks = free-longer n marks (m ∷ []) in
      omega arith
]
