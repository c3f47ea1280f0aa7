use Rattle.lasso_eval.specs.Rows.{IsRow, row_truth, paired_truth}
use Rattle.lasso_eval.proofs.rows.Row.paired.Given as goal

abbrev pub invariant-loop-i : goal.invariant-loop-i
invariant-loop-i l = IsRow l.i (λ k. paired_truth l.pairing (row_truth l.self k) (row_truth l.other k)) l.bits.items
