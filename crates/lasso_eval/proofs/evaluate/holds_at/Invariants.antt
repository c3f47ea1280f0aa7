use Rattle.std.proofs.Common.{◌≡◌, length}
use Rattle.lasso_eval.specs.Rows.{IsTable}
use Rattle.lasso_eval.proofs.evaluate.holds_at.Given as goal

abbrev pub invariant-loop-place : goal.invariant-loop-place
invariant-loop-place l = (length l.rows.items ≡ l.place) × IsTable l.lasso l.formulas l.rows.items
