use Rattle.std.proofs.Common.{refl, subst}
use Rattle.truth_witness.specs.Obligations.{clauses_of, variables_of}
use Rattle.witness_check.specs.Logs.{HoldsOver}
use Rattle.witness_check.proofs.Holding.{tested_more}
use Rattle.witness_check.proofs.check.check_first_logs.Goals as goal

pub loop-place-preserved : goal.loop-place-preserved
loop-place-preserved c =
    tested_more c.args.claim.now c.args.logs.now c.loop-place.place c.index-logs-place.result c.loop-place.bases c.test.new.self c.loop-place-test.true c.index-logs-place.is
    (subst (λ o. HoldsOver (variables_of c.args.claim.now o) (clauses_of c.args.claim.now o) c.index-logs-place.result) c.obligation_at-obligation.ensures (c.in-Ok.ensures.ok refl))
    c.in-Ok.ensures.kept c.loop-place.invariant
