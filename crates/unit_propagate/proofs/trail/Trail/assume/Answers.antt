use Rattle.std.proofs.Common.{None, ◌+◌}
use Rattle.unit_propagate.proofs.PropagatorLemmas.{IsKept-push}
use Rattle.unit_propagate.proofs.trail.Trail.assume.Goals as goal

pub invariant_of-self : goal.invariant_of-self
invariant_of-self c =
    IsKept-push c.self.inside.state (record { lit = c.args.lit; level = c.level-level.result + 1; reason = None }) c.push.new.self c.push.ensures c.self.invariant
