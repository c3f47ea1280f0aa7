-- Truths, and tests below a number taken from the front.
use Rattle.std.proofs.Common.{◌≡◌, ℕ, zero, suc, Bool, true, false, refl, sym, ap, ◌∙◌}
use Rattle.std.specs.Prelude.{not, ◌&&◌, ◌||◌}
use Rattle.std.specs.Bool.{beq}
use mathlib.Core.Bool.{or_assoc, and-true, or-false}
use Rattle.ltl_formula.specs.Truth.{some_below}
use Rattle.letters_and_lassos.specs.Below.{all_below}

pub and_regroup : (x y z : Bool) → ((x && y) && z) ≡ (x && (y && z))
and_regroup true y z = refl
and_regroup false y z = refl

pub beq_true : (x : Bool) → beq x true ≡ x
beq_true true = refl
beq_true false = refl

pub beq_false : (x : Bool) → beq x false ≡ not x
beq_false true = refl
beq_false false = refl

-- functions that agree everywhere
pub same_function : {A : Type 0} (f g : ℕ → A) → ((i : ℕ) → f i ≡ g i) → f ≡ g
same_function f g e = λ k i. e i k

pub all_below-first : (n : ℕ) (test : ℕ → Bool) → all_below (suc n) test ≡ (test 0 && all_below n (λ j. test (suc j)))
all_below-first zero test = sym (and-true (test 0))
all_below-first (suc n) test =
    ap (λ b. b && test (suc n)) (all_below-first n test) ∙ and_regroup (test 0) (all_below n (λ j. test (suc j))) (test (suc n))

pub some_below-first : (n : ℕ) (test : ℕ → Bool) → some_below (suc n) test ≡ (test 0 || some_below n (λ j. test (suc j)))
some_below-first zero test = sym (or-false (test 0))
some_below-first (suc n) test =
    ap (λ b. b || test (suc n)) (some_below-first n test) ∙ or_assoc (test 0) (some_below n (λ j. test (suc j))) (test (suc n))
