use Rattle.std.specs.Option.{option_map}
use Rattle.std.proofs.Common.{◌≤◌, length}
use Rattle.tlsf_syntax.specs.TextReading.{alternatives_read}
use Rattle.tlsf_syntax.specs.Seen.{alternative_seen, expr_seen}
use Rattle.tlsf_reader.specs.Descent.{Builds}
use Rattle.tlsf_reader.specs.TextDescent.{in_front}
use Rattle.tlsf_reader.proofs.definition.alternatives.Given as goal

abbrev pub invariant-loop-next : goal.invariant-loop-next
invariant-loop-next l = record {
  builds : Builds (in_front alternative_seen) (λ d. alternatives_read d (option_map expr_seen l.initial.next) l.initial.ahead) l.alternatives.items (λ d. alternatives_read d (option_map expr_seen l.next) l.ahead);
  shorter : length l.ahead ≤ length l.initial.ahead;
}

abbrev pub decreases-loop-next : goal.decreases-loop-next
decreases-loop-next l = length l.ahead
