use Rattle.std.proofs.Common.{ℕ, ◌<◌}
use Rattle.product_bound.specs.Annotation.{bound_at, number_at}
use Rattle.product_bound.specs.Kept.{IsWithinBound}
use Rattle.product_bound.proofs.annotations.is_state_within.Given as goal

abbrev pub invariant-loop-t : goal.invariant-loop-t
invariant-loop-t l = (t : ℕ) → t < l.t → IsWithinBound (bound_at l.problem l.q) (number_at l.problem l.numbers t l.q)
