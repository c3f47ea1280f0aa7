use Rattle.std.proofs.Common.{◌≤◌, length}
use Rattle.tlsf_syntax.specs.TextReading.{blocks_read}
use Rattle.tlsf_reader.specs.TextView.{block_view}
use Rattle.tlsf_reader.specs.Descent.{Builds}
use Rattle.tlsf_reader.specs.TextDescent.{in_front}
use Rattle.tlsf_reader.proofs.definition.blocks.Given as goal

abbrev pub invariant-loop-blocks : goal.invariant-loop-blocks
invariant-loop-blocks l = record {
  builds : Builds (in_front block_view) (λ d. blocks_read d l.initial.ahead) l.blocks.items (λ d. blocks_read d l.ahead);
  shorter : length l.ahead ≤ length l.initial.ahead;
}

abbrev pub decreases-loop-blocks : goal.decreases-loop-blocks
decreases-loop-blocks l = length l.ahead
