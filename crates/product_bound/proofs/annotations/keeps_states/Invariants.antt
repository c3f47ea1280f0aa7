use Rattle.std.proofs.Common.{ℕ, ◌<◌}
use Rattle.product_bound.specs.Kept.{KeepsLetters}
use Rattle.product_bound.proofs.annotations.keeps_states.Given as goal

abbrev pub invariant-loop-t : goal.invariant-loop-t
invariant-loop-t l = (t : ℕ) → t < l.t → KeepsLetters l.problem l.machine l.numbers t
