use Rattle.std.proofs.Common.{◌≡◌, ◌≤◌}
use Rattle.annotation_encode.specs.BaseClauses.{written_signal}
use Rattle.annotation_encode.specs.Count.{passing}
use Rattle.letter_clauses.specs.Count.{is_named}
use Rattle.letter_clauses.proofs.sizes.LetterSize.named_signals.Given as goal

abbrev pub invariant-loop-signal : goal.invariant-loop-signal
invariant-loop-signal l = record {
  value : l.named ≡ passing l.signal (λ s. is_named l.cube (written_signal l.self.problem.now s));
  small : l.named ≤ l.signal;
}
