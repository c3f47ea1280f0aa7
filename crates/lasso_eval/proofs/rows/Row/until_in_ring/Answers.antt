use Rattle.std.proofs.Common.{◌≡◌, ◌-◌, ◌≤◌, ◌&&◌, ◌||◌, length, ap, subst, ◌∙◌, arith}
use Rattle.letters_and_lassos.specs.Word.{lasso_len}
use Rattle.ltl_formula.specs.Truth.{until_within}
use Rattle.lasso_eval.specs.Rows.{row_truth}
use Rattle.lasso_eval.proofs.RowFacts.{ring_pass-more, ring_pass-end}
use Rattle.lasso_eval.proofs.rows.Row.until_in_ring.Goals as goal

pub loop-i-preserved : goal.loop-i-preserved
loop-i-preserved c =
    let w = c.args.lasso.now in
    let a = row_truth c.args.self.now in
    let b = row_truth c.args.other.now in
    let i = c.loop-i.i - 1 in
    let start : length c.stem-start.result.now ≡ length c.args.lasso.now.stem = ap length c.stem-start.ensures.value in
    let e : (c.at-comes.result || (c.at-held.result && c.loop-i.begun)) ≡ (b i || (a i && c.loop-i.begun)) = cc in (
      omega arith,
      c.until_step-begun.ensures ∙ e ∙ ring_pass-more w a b i c.loop-i.i c.loop-i.begun (omega arith) (omega arith) c.loop-i.invariant.1,
    )

pub returns : goal.returns
returns c =
    let start : length c.stem-start.result.now ≡ length c.args.lasso.now.stem = ap length c.stem-start.ensures.value in
    let above : length c.args.lasso.now.stem ≤ c.loop-i.i = c.loop-i.invariant.0 in
    let at : c.loop-i.i ≡ length c.args.lasso.now.stem = omega arith in
    ring_pass-end c.args.lasso.now (row_truth c.args.self.now) (row_truth c.args.other.now) c.len-i.ensures.ring c.loop-i.begun
    (subst (λ n. c.loop-i.begun ≡ until_within c.args.lasso.now (row_truth c.args.self.now) (row_truth c.args.other.now) (lasso_len c.args.lasso.now - n) n) at c.loop-i.invariant.1)
