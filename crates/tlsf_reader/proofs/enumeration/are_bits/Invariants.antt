use Rattle.std.proofs.Common.{◌≡◌, drop}
use Rattle.std.specs.Option.{is_some}
use Rattle.tlsf_syntax.specs.Texts.{digits_bits}
use Rattle.tlsf_reader.proofs.enumeration.are_bits.Given as goal

abbrev pub invariant-loop-digit : goal.invariant-loop-digit
invariant-loop-digit l = is_some (digits_bits l.digits) ≡ is_some (digits_bits (drop l.digit-index l.digits))
