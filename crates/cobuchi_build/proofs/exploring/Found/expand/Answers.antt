use Rattle.std.proofs.Common.{Err, ap, sym, ◌∙◌}
use Rattle.std.proofs.lemmas.Result.{err_from_is_err_and}
use Rattle.cobuchi_build.proofs.Meeting.{fold_step, too_many-all}
use Rattle.cobuchi_build.proofs.exploring.Found.expand.Goals as goal

pub returns-in_err-meet-clause-too_large : goal.returns-in_err-meet-clause-too_large
returns-in_err-meet-clause-too_large c =
    let p = err_from_is_err_and c.from_residual.result c.from_residual.ensures.1 in
    λ e. too_many-all c.args.untils.now c.args.number c.args.counter c.args.limits c.args.self.now c.loop-cover.self c.args.covers.now c.loop-cover.cover-index c.cover-item.result c.loop-cover-test.true c.cover-item.is c.loop-cover.invariant.met
    (c.in_err-meet.ensures.too_large (ap Err (sym p.2) ∙ sym p.1 ∙ e))

pub loop-cover-preserved : goal.loop-cover-preserved
loop-cover-preserved c = record {
  met = fold_step c.args.untils.now c.args.number c.args.counter c.args.self.now c.loop-cover.self c.meet.new.self c.args.covers.now c.loop-cover.cover-index c.cover-item.result c.loop-cover-test.true c.cover-item.is c.loop-cover.invariant.met c.in_ok-meet.ensures.ok;
  room = c.in_ok-meet.ensures.room;
}
