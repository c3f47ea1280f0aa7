use Rattle.std.proofs.Common.{◌≤◌, length}
use Rattle.tlsf_syntax.specs.TextReading.{members_read}
use Rattle.tlsf_syntax.specs.Seen.{member_seen}
use Rattle.tlsf_reader.specs.Descent.{Builds}
use Rattle.tlsf_reader.specs.TextDescent.{in_front}
use Rattle.tlsf_reader.proofs.enumeration.members.Given as goal

abbrev pub invariant-loop-members : goal.invariant-loop-members
invariant-loop-members l = record {
  builds : Builds (in_front member_seen) (λ d. members_read d l.initial.ahead) l.members.items (λ d. members_read d l.ahead);
  shorter : length l.ahead ≤ length l.initial.ahead;
}

abbrev pub decreases-loop-members : goal.decreases-loop-members
decreases-loop-members l = length l.ahead
