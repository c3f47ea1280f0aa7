use Rattle.std.proofs.Common.{◌≡◌, true}
use Rattle.letters_and_lassos.specs.Signals.{has}
use Rattle.annotation_encode.specs.BaseClauses.{read_signal, signal_fits}
use Rattle.letters_and_lassos.specs.Below.{all_below}
use Rattle.letter_clauses.proofs.clauses.fits_read.Given as goal

abbrev pub invariant-loop-signal : goal.invariant-loop-signal
invariant-loop-signal l = all_below l.signal (λ s. signal_fits l.cube (read_signal l.size.problem.now s) (has l.letter s)) ≡ true
