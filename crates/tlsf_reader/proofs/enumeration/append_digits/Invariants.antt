use Rattle.tlsf_reader.proofs.EnumerationDescending.{Appending}
use Rattle.tlsf_reader.proofs.enumeration.append_digits.Given as goal

abbrev pub invariant-loop-digit : goal.invariant-loop-digit
invariant-loop-digit l = Appending l.digits l.digit-index l.initial.bits.items l.bits.items
