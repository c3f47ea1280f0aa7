use Rattle.std.proofs.Common.{true, subst}
use Rattle.letters_and_lassos.specs.Word.{lasso_len}
use Rattle.ltl_formula.specs.Truth.{until_at}
use Rattle.lasso_eval.specs.Rows.{IsRow, row_truth}
use Rattle.lasso_eval.proofs.RowFacts.{rows-like, until-same, IsRow-self}
use Rattle.lasso_eval.proofs.rows.Row.finally.Goals as goal

pub returns : goal.returns
returns c =
    let w = c.args.lasso.now in
    rows-like c.until.result (lasso_len w) (until_at w (row_truth c.in_ok-always.always) (row_truth c.args.self.now)) (until_at w (λ k. true) (row_truth c.args.self.now))
    (until-same w c.len.ensures.ring (λ k. true) (row_truth c.args.self.now) c.in_ok-always.always c.args.self.now
    (subst (λ n. IsRow n (λ k. true) c.in_ok-always.always) c.len.ensures.value c.in_ok-always.ensures)
    (IsRow-self (lasso_len w) c.args.self.now c.requires))
    c.until.ensures.value
