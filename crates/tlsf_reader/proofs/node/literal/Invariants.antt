use Rattle.std.proofs.Common.{◌≡◌, ◌<◌, drop}
use Rattle.tlsf_syntax.specs.Lexemes.{decimal_from}
use Rattle.tlsf_reader.proofs.node.literal.Given as goal

abbrev pub invariant-loop-digit : goal.invariant-loop-digit
invariant-loop-digit l = record { sum : decimal_from 0 l.text ≡ decimal_from l.value (drop l.digit-index l.text); fits : l.value < 9223372036854775808 }
