use Rattle.std.proofs.Common.{◌≡◌, ℕ, zero, suc, ◌<◌, Bool, true, false, ◌&&◌, ◌||◌, inl, inr, refl, subst, arith}
use Rattle.std.specs.Prelude.{not}
use Rattle.std.proofs.lemmas.Bool.{or_cases, or_left, or_right, false≢true, cases_eq}
use Rattle.ltl_formula.specs.Truth.{some_below}

pub some_below-from : (n : ℕ) (test : ℕ → Bool) (j : ℕ) → j < n → test j ≡ true → some_below n test ≡ true
some_below-from zero test j within passes = absurd (omega arith)
some_below-from (suc n) test j within passes =
    elim (cases_eq j n) [
      | inl e ↦ or_right (some_below n test) (test n) (subst (λ i. test i ≡ true) e passes)
      | inr ne ↦ or_left (some_below n test) (test n) (some_below-from n test j (omega (arith, ne)) passes)
    ]

pub some_below-gives : (n : ℕ) (test : ℕ → Bool) → some_below n test ≡ true → (j : ℕ) × ((j < n) × (test j ≡ true))
some_below-gives zero test h = absurd (false≢true h)
some_below-gives (suc n) test h =
    elim (or_cases (some_below n test) (test n) h) [
      | inl before ↦
          let found : (j : ℕ) × ((j < n) × (test j ≡ true)) = some_below-gives n test before in
          let within : found.0 < n = found.1.0 in
          (found.0, (omega arith, found.1.1))
      | inr here ↦ (n, (omega arith, here))
    ]

-- the opposite of an `or` of opposites
pub not-or-not : (x y z : Bool) → not (not x || (not y && z)) ≡ (x && (y || not z))
not-or-not true true true = refl
not-or-not true true false = refl
not-or-not true false true = refl
not-or-not true false false = refl
not-or-not false y z = refl
