use Rattle.lasso_eval.specs.Rows.{row_truth}
use Rattle.lasso_eval.specs.Passes.{HasPassed}
use Rattle.lasso_eval.proofs.rows.Row.until.Given as goal

abbrev pub invariant-loop-i : goal.invariant-loop-i
invariant-loop-i l = HasPassed l.lasso (row_truth l.self) (row_truth l.other) l.i l.carry l.bits.items
