use Rattle.std.proofs.Common.{◌≡◌, ◌-◌, ◌&&◌, ◌||◌, ◌∙◌, arith}
use Rattle.lasso_eval.specs.Rows.{row_truth}
use Rattle.lasso_eval.proofs.RowFacts.{HasPassed-more}
use Rattle.lasso_eval.proofs.rows.Row.until.Goals as goal

pub loop-i-preserved : goal.loop-i-preserved
loop-i-preserved c =
    let a = row_truth c.args.self.now in
    let b = row_truth c.args.other.now in
    let i = c.loop-i.i - 1 in
    let e : (c.at-comes.result || (c.at-held.result && c.loop-i.carry)) ≡ (b i || (a i && c.loop-i.carry)) = cc in
    HasPassed-more c.args.lasso.now a b c.loop-i.i i c.loop-i.carry c.until_step-carry.result c.loop-i.bits.items c.len-len.ensures.ring
    (omega arith) (omega arith) c.loop-i.invariant (c.until_step-carry.ensures ∙ e)
