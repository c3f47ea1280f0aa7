use Rattle.std.proofs.Common.{◌≡◌, ℕ, Option, is_none, cond}
use Rattle.std.specs.Prelude.{sum_by, length}
use Rattle.machine_model.proofs.Walks.{IsWalk}
use Rattle.machine_model.proofs.runs.run_lasso.Given as goal

abbrev pub invariant-loop-course : goal.invariant-loop-course
invariant-loop-course l =
    IsWalk l.machine l.side l.reads l.course.letters.items l.course.states.items l.course.state l.met.items
    × (l.ring_start ≡ length l.reads.stem)

abbrev pub decreases-loop-course : goal.decreases-loop-course
decreases-loop-course l = sum_by (λ (o : Option ℕ). cond (is_none o) 1 0) l.met.items
