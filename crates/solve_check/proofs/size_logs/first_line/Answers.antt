use Rattle.std.proofs.Common.{subst}
use Rattle.size_refutations.specs.FirstBad.{LogFails}
use Rattle.solve_check.proofs.LogLemmas.{goes_bad, goes_end, goes_on}
use Rattle.solve_check.proofs.size_logs.first_line.Goals as goal

pub returns-in-Some : goal.returns-in-Some
returns-in-Some c =
    goes_bad c.args.ground.now c.args.logs.now c.loop-log.log-index c.loop-log.invariant c.log-item.result c.loop-log-test.true c.log-item.is c.in-Some.line
    (subst (LogFails c.args.ground.now c.log-item.result) c.in-Some.is c.in_ok-line.ensures)

pub loop-log-preserved : goal.loop-log-preserved
loop-log-preserved c =
    goes_on c.args.ground.now c.args.logs.now c.loop-log.log-index c.loop-log.invariant c.log-item.result c.loop-log-test.true c.log-item.is
    (subst (LogFails c.args.ground.now c.log-item.result) c.in_default.is c.in_ok-line.ensures)

pub returns : goal.returns
returns c = goes_end c.args.ground.now c.args.logs.now c.loop-log.log-index c.loop-log.invariant c.loop-log-test.false
