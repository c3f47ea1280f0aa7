use Rattle.std.proofs.Common.{◌≡◌, ℕ, ◌<◌, ◌≤◌, Some, Contains, slice_get}
use Rattle.propositional_logic.specs.Literal.{Literal, negated}
use Rattle.unit_propagate.specs.Trail.{literals_of}
use Rattle.unit_propagate.proofs.propagator.open_literal.Given as goal

abbrev pub invariant-loop-place : goal.invariant-loop-place
invariant-loop-place l = (j : ℕ) (x : Literal) → 2 ≤ j → j < l.place → slice_get l.lits j ≡ Some x → Contains (literals_of l.marks.marks) (negated x)
