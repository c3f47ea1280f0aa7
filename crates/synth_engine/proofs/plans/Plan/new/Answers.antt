use Rattle.synth_engine.proofs.plans.Plan.new.Goals as goal

pub allowed_sizes-environment_sizes-requires-clause-problem : goal.allowed_sizes-environment_sizes-requires-clause-problem
allowed_sizes-environment_sizes-requires-clause-problem c = c.requires.environment c.in-Some.problem c.in-Some.is
