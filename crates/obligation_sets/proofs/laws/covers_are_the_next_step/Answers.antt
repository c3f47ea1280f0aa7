use Rattle.obligation_sets.proofs.NextStep.{covers_are_the_next_step}
use Rattle.obligation_sets.proofs.laws.covers_are_the_next_step.Goals as goal

pub returns : goal.returns
returns c = covers_are_the_next_step
