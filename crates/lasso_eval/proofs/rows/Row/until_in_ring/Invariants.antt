use Rattle.std.proofs.Common.{◌≡◌, ◌-◌, ◌≤◌, length}
use Rattle.letters_and_lassos.specs.Word.{lasso_len}
use Rattle.ltl_formula.specs.Truth.{until_within}
use Rattle.lasso_eval.specs.Rows.{row_truth}
use Rattle.lasso_eval.proofs.rows.Row.until_in_ring.Given as goal

abbrev pub invariant-loop-i : goal.invariant-loop-i
invariant-loop-i l =
    (length l.lasso.stem ≤ l.i)
    × (l.begun ≡ until_within l.lasso (row_truth l.self) (row_truth l.other) (lasso_len l.lasso - l.i) l.i)
