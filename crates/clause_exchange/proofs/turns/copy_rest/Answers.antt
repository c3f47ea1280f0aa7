use Rattle.std.proofs.Common.{◌∙◌}
use Rattle.std.proofs.lemmas.Result.{err_from_is_err_and}
use Rattle.clause_exchange.proofs.Offering.{copied_err, one_more_copied}
use Rattle.clause_exchange.proofs.turns.copy_rest.Goals as goal

pub returns-in_err-copy_of : goal.returns-in_err-copy_of
returns-in_err-copy_of c =
    let p = err_from_is_err_and c.from_residual.result c.from_residual.ensures.1 in
    copied_err _ _ c.loop-i.i c.from_residual.result _ p.1 c.loop-i.invariant

pub returns-in_err-push : goal.returns-in_err-push
returns-in_err-push c =
    let p = err_from_is_err_and c.from_residual-in_err-push.result c.from_residual-in_err-push.ensures.1 in
    copied_err _ _ c.loop-i.i c.from_residual-in_err-push.result _ p.1 (c.in_err-push.ensures.items ∙ c.loop-i.invariant)

pub loop-i-preserved : goal.loop-i-preserved
loop-i-preserved c = one_more_copied _ _ _ c.loop-i.i _ c.loop-i.invariant c.in_ok-copy_of.ensures c.in_ok-push.ensures.items
