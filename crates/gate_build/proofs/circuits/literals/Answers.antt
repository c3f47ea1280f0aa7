use Rattle.std.proofs.Common.{◌+◌, ◌*◌, refl}
use Rattle.gate_build.proofs.Alls.{pushed_is}
use Rattle.gate_build.proofs.circuits.literals.Goals as goal

pub loop-place-preserved : goal.loop-place-preserved
loop-place-preserved c = pushed_is (λ k. 2 * (c.args.from + k + 1)) c.loop-place.place c.loop-place.literals.items c.push.new.self.items _ c.loop-place.invariant c.in_ok-push.ensures.items refl
