use Rattle.std.proofs.Common.{◌∙◌, rules, arith}
use Rattle.tlsf_expand.proofs.Laying.{bits_step}
use Rattle.tlsf_expand.proofs.signals.add_bits.Goals as goal

pub loop-bit-preserved : goal.loop-bit-preserved
loop-bit-preserved c =
    c.loop-bit.invariant ∙ bits_step c.loop-bit.flat.items c.push.new.self.items c.args.name.now c.loop-bit.bit c.args.width (omega arith) (search rules)
