use Rattle.spec_problems.proofs.OneAnswer.{texts_are_determined}
use Rattle.spec_problems.proofs.laws.problems_of_texts_are_determined.Goals as goal

pub returns : goal.returns
returns c = texts_are_determined
