use Rattle.std.proofs.Common.{refl}
use Rattle.gate_build.specs.Table.{gate_from}
use Rattle.gate_build.proofs.Alls.{pushed_is}
use Rattle.gate_build.proofs.circuits.gate_list.Goals as goal

pub loop-place-preserved : goal.loop-place-preserved
loop-place-preserved c = pushed_is (gate_from c.args.first c.args.operands.now) c.loop-place.place c.loop-place.gates.items c.push.new.self.items _ c.loop-place.invariant c.in_ok-push.ensures.items refl
