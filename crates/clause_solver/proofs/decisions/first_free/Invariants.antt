use Rattle.clause_solver.specs.Free.{IsTotal}
use Rattle.clause_solver.proofs.decisions.first_free.Given as goal

abbrev pub invariant-loop-place : goal.invariant-loop-place
invariant-loop-place l = IsTotal l.place l.trail.marks
