use Rattle.lasso_eval.specs.Rows.{IsRow}
use Rattle.lasso_eval.proofs.rows.Row.constant.Given as goal

abbrev pub invariant-loop-i : goal.invariant-loop-i
invariant-loop-i l = IsRow l.i (λ k. l.value) l.bits.items
