use Rattle.std.proofs.Common.{ap, subst, ◌∙◌}
use Rattle.std.specs.Prelude.{not, IfOk}
use Rattle.letters_and_lassos.specs.Word.{lasso_len}
use Rattle.ltl_formula.specs.Truth.{release_at}
use Rattle.lasso_eval.specs.Rows.{IsRow, row_truth}
use Rattle.lasso_eval.proofs.RowFacts.{rows-like, until-same}
use Rattle.lasso_eval.proofs.rows.Row.release.Goals as goal

pub returns : goal.returns
returns c =
    let w = c.args.lasso.now in
    let a = row_truth c.args.self.now in
    let b = row_truth c.args.other.now in
    let here = c.in_ok-here.here in
    let there = c.in_ok-there.there in
    let comes = c.in_ok-comes.comes in
    rows-like c.opposite-3.result (lasso_len w) (λ k. not (row_truth comes k)) (release_at w a b)
    (λ i h. ap not (c.in_ok-comes.ensures.value.each i h
    ∙ until-same w c.in_ok-comes.ensures.ring (λ k. not (a k)) (λ k. not (b k)) here there
    (subst (λ n. IsRow n (λ k. not (a k)) here) c.requires.first c.in_ok-here.ensures)
    (subst (λ n. IsRow n (λ k. not (b k)) there) c.requires.second c.in_ok-there.ensures) i h))
    (subst (λ n. IfOk c.opposite-3.result (λ row. IsRow n (λ k. not (row_truth comes k)) row)) c.in_ok-comes.ensures.value.len c.opposite-3.ensures)
