use Rattle.std.proofs.Common.{◌≤◌, length}
use Rattle.tlsf_syntax.specs.TextReading.{declarations_read}
use Rattle.tlsf_syntax.specs.Seen.{declaration_seen}
use Rattle.tlsf_reader.specs.Descent.{Builds}
use Rattle.tlsf_reader.specs.TextDescent.{in_front}
use Rattle.tlsf_reader.proofs.section.declarations.Given as goal

abbrev pub invariant-loop-alloc : goal.invariant-loop-alloc
invariant-loop-alloc l = record {
  builds : Builds (in_front declaration_seen) (λ d. declarations_read d l.initial.ahead) l.declarations.items (λ d. declarations_read d l.ahead);
  shorter : length l.ahead ≤ length l.initial.ahead;
}

abbrev pub decreases-loop-alloc : goal.decreases-loop-alloc
decreases-loop-alloc l = length l.ahead
