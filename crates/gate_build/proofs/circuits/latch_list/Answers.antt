use Rattle.std.proofs.Common.{refl}
use Rattle.gate_build.specs.Table.{latch_from}
use Rattle.gate_build.proofs.Alls.{pushed_is}
use Rattle.gate_build.proofs.circuits.latch_list.Goals as goal

pub loop-place-preserved : goal.loop-place-preserved
loop-place-preserved c = pushed_is (latch_from c.args.from c.args.nexts.now) c.loop-place.place c.loop-place.latches.items c.push.new.self.items _ c.loop-place.invariant c.in_ok-push.ensures.items refl
