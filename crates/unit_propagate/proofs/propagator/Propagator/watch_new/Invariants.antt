use Rattle.std.proofs.Common.{◌-◌, length}
use Rattle.unit_propagate.specs.Propagator.{clauses_in, Goes}
use Rattle.unit_propagate.proofs.propagator.Propagator.watch_new.Given as goal

abbrev pub invariant-loop-self : goal.invariant-loop-self
invariant-loop-self l = Goes (clauses_in l.base l.seen) l.initial.self l.self

abbrev pub decreases-loop-self : goal.decreases-loop-self
decreases-loop-self l = length (clauses_in l.base l.seen) - length l.self.watches.watched
