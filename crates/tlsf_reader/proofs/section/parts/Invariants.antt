use Rattle.std.proofs.Common.{◌≤◌, length}
use Rattle.tlsf_syntax.specs.TextReading.{parts_read}
use Rattle.tlsf_reader.specs.TextView.{part_view}
use Rattle.tlsf_reader.specs.Descent.{Builds}
use Rattle.tlsf_reader.specs.TextDescent.{in_front}
use Rattle.tlsf_reader.proofs.section.parts.Given as goal

abbrev pub invariant-loop-alloc : goal.invariant-loop-alloc
invariant-loop-alloc l = record {
  builds : Builds (in_front part_view) (λ d. parts_read d l.initial.ahead) l.parts.items (λ d. parts_read d l.ahead);
  shorter : length l.ahead ≤ length l.initial.ahead;
}

abbrev pub decreases-loop-alloc : goal.decreases-loop-alloc
decreases-loop-alloc l = length l.ahead
