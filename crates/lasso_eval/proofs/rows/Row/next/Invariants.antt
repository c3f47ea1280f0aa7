use Rattle.lasso_eval.specs.Rows.{IsRow, row_truth}
use Rattle.letters_and_lassos.specs.Word.{next}
use Rattle.lasso_eval.proofs.rows.Row.next.Given as goal

abbrev pub invariant-loop-i : goal.invariant-loop-i
invariant-loop-i l = IsRow l.i (λ k. row_truth l.self (next l.lasso k)) l.bits.items
