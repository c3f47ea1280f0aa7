use Rattle.std.proofs.Common.{◌<◌, length}
use Rattle.tlsf_syntax.specs.Reading.{Answer}
use Rattle.tlsf_syntax.specs.TextReading.{Value, value_read}
use Rattle.tlsf_reader.specs.Descent.{Eventually}
use Rattle.tlsf_reader.specs.TextDescent.{value_from}
use Rattle.tlsf_reader.proofs.enumeration.pattern.Given as goal

abbrev pub invariant-loop-next : goal.invariant-loop-next
invariant-loop-next l = record {
  reads : (a : Answer Value) → Eventually (λ d. value_from l.bits.items l.end d l.ahead) a → Eventually (λ d. value_read d l.fn.ahead) a;
  shorter : length l.ahead < length l.fn.ahead;
}

abbrev pub decreases-loop-next : goal.decreases-loop-next
decreases-loop-next l = length l.ahead
