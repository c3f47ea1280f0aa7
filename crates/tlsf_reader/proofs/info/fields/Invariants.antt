use Rattle.std.proofs.Common.{◌≤◌, length}
use Rattle.tlsf_syntax.specs.TextReading.{fields_read}
use Rattle.tlsf_reader.specs.TextView.{field_view}
use Rattle.tlsf_reader.specs.Descent.{Builds}
use Rattle.tlsf_reader.specs.TextDescent.{in_front}
use Rattle.tlsf_reader.proofs.info.fields.Given as goal

abbrev pub invariant-loop-alloc : goal.invariant-loop-alloc
invariant-loop-alloc l = record {
  builds : Builds (in_front field_view) (λ d. fields_read d l.initial.ahead) l.fields.items (λ d. fields_read d l.ahead);
  shorter : length l.ahead ≤ length l.initial.ahead;
}

abbrev pub decreases-loop-alloc : goal.decreases-loop-alloc
decreases-loop-alloc l = length l.ahead
