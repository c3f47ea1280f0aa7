use Rattle.std.proofs.Common.{◌≡◌}
use Rattle.unit_propagate.specs.Propagator.{clauses_in, Goes, AreForced}
use Rattle.unit_propagate.proofs.propagator.Propagator.force_units.Given as goal

abbrev pub invariant-loop-i : goal.invariant-loop-i
invariant-loop-i l = Goes (clauses_in l.base l.seen) l.initial.self l.self × (l.self.watches ≡ l.initial.self.watches) × (l.self.done ≡ l.initial.self.done) × AreForced l.self l.i
