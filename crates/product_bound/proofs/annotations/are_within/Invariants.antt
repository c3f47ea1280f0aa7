use Rattle.std.proofs.Common.{ℕ, ◌<◌}
use Rattle.product_bound.specs.Kept.{IsStateWithin}
use Rattle.product_bound.proofs.annotations.are_within.Given as goal

abbrev pub invariant-loop-q : goal.invariant-loop-q
invariant-loop-q l = (q : ℕ) → q < l.q → IsStateWithin l.problem l.numbers q
