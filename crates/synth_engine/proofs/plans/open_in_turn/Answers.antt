use Rattle.synth_engine.proofs.PlanLemmas.{opened_push}
use Rattle.synth_engine.proofs.plans.open_in_turn.Goals as goal

pub loop-problem-preserved : goal.loop-problem-preserved
loop-problem-preserved c =
    opened_push c.args.settings c.loop-problem.yielded c.loop-problem.all.items c.push.new.self.items c.in-Some.problem c.in_ok-open_size.field-0 c.loop-problem.invariant c.in_ok-push.ensures.items
    c.in_ok-open_size.ensures
