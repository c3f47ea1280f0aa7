use Rattle.std.proofs.Common.{false, subst}
use Rattle.letters_and_lassos.specs.Word.{lasso_len}
use Rattle.ltl_formula.specs.Truth.{release_at}
use Rattle.lasso_eval.specs.Rows.{IsRow, row_truth}
use Rattle.lasso_eval.proofs.RowFacts.{rows-like, release-same, IsRow-self}
use Rattle.lasso_eval.proofs.rows.Row.globally.Goals as goal

pub returns : goal.returns
returns c =
    let w = c.args.lasso.now in
    rows-like c.release.result (lasso_len w) (release_at w (row_truth c.in_ok-never.never) (row_truth c.args.self.now)) (release_at w (λ k. false) (row_truth c.args.self.now))
    (release-same w c.len.ensures.ring (λ k. false) (row_truth c.args.self.now) c.in_ok-never.never c.args.self.now
    (subst (λ n. IsRow n (λ k. false) c.in_ok-never.never) c.len.ensures.value c.in_ok-never.ensures)
    (IsRow-self (lasso_len w) c.args.self.now c.requires))
    c.release.ensures
