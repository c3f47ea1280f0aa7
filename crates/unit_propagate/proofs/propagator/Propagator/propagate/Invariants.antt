use Rattle.std.proofs.Common.{◌≤◌, ◌+◌, ◌-◌, length}
use Rattle.unit_propagate.specs.Marks.{room_of}
use Rattle.unit_propagate.specs.Propagator.{clauses_in, Goes, AreUnitsTrue}
use Rattle.unit_propagate.proofs.propagator.Propagator.propagate.Given as goal

abbrev pub invariant-loop-self : goal.invariant-loop-self
invariant-loop-self l = Goes (clauses_in l.base l.seen) l.fn.self l.self × AreUnitsTrue l.self × (length (clauses_in l.base l.seen) ≤ length l.self.watches.watched)

abbrev pub decreases-loop-self : goal.decreases-loop-self
decreases-loop-self l = (room_of l.self.marks.vars + 1) - l.self.place
