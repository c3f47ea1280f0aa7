-- A test at each number below n.
use Rattle.std.proofs.Common.{◌≡◌, ℕ, zero, suc, ◌<◌, Bool, true, ◌&&◌, inl, inr, refl, sym, subst, arith}
use Rattle.std.proofs.lemmas.Bool.{and_parts, and_from, cases_eq}
use Rattle.letters_and_lassos.specs.Below.{all_below}

pub all_below-from : (n : ℕ) (test : ℕ → Bool) → ((j : ℕ) → j < n → test j ≡ true) → all_below n test ≡ true
all_below-from zero test each = refl
all_below-from (suc n) test each =
    and_from (all_below n test) (test n) (all_below-from n test (λ j h. each j (omega arith))) (each n (omega arith))

pub all_below-gives : (n : ℕ) (test : ℕ → Bool) → all_below n test ≡ true → (j : ℕ) → j < n → test j ≡ true
all_below-gives zero test h j within = absurd (omega arith)
all_below-gives (suc n) test h j within =
    elim (cases_eq j n) [
      | inl e ↦ subst (λ i. test i ≡ true) (sym e) (and_parts (all_below n test) (test n) h).1
      | inr ne ↦ all_below-gives n test (and_parts (all_below n test) (test n) h).0 j (omega (arith, ne))
    ]
