use Rattle.clause_solver.proofs.ModelLemmas.{AreValues}
use Rattle.clause_solver.proofs.models.values_of.Given as goal

abbrev pub invariant-loop-place : goal.invariant-loop-place
invariant-loop-place l = AreValues l.trail.marks l.place l.values.items
