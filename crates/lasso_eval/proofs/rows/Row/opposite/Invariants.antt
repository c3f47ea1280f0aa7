use Rattle.std.proofs.Common.{not}
use Rattle.lasso_eval.specs.Rows.{IsRow, row_truth}
use Rattle.lasso_eval.proofs.rows.Row.opposite.Given as goal

abbrev pub invariant-loop-i : goal.invariant-loop-i
invariant-loop-i l = IsRow l.i (λ k. not (row_truth l.self k)) l.bits.items
