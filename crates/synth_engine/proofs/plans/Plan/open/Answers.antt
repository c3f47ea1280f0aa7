use Rattle.synth_engine.proofs.plans.Plan.open.Goals as goal

pub open_sizes-requires-in-Some-clause-problem : goal.open_sizes-requires-in-Some-clause-problem
open_sizes-requires-in-Some-clause-problem g c κs within = c.requires.environment c.in-Some.problem c.in-Some.is
