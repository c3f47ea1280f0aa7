use Rattle.lasso_eval.specs.Rows.{IsRow}
use Rattle.letters_and_lassos.specs.Signals.{has}
use Rattle.letters_and_lassos.specs.Word.{letter_at}
use Rattle.lasso_eval.proofs.rows.Row.signal.Given as goal

abbrev pub invariant-loop-i : goal.invariant-loop-i
invariant-loop-i l = IsRow l.i (λ k. has (letter_at l.lasso k).0 l.signal) l.bits.items
