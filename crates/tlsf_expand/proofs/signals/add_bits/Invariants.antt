use Rattle.std.proofs.Common.{◌≡◌, ◌++◌, ◌-◌}
use Rattle.tlsf_expand.specs.Signals.{bit_names}
use Rattle.tlsf_expand.proofs.signals.add_bits.Given as goal

abbrev pub invariant-loop-bit : goal.invariant-loop-bit
invariant-loop-bit l = l.fn.flat.items ++ bit_names l.name 0 l.width ≡ l.flat.items ++ bit_names l.name l.bit (l.width - l.bit)
