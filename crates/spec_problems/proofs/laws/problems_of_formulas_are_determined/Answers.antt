use Rattle.spec_problems.proofs.OneAnswer.{formulas_are_determined}
use Rattle.spec_problems.proofs.laws.problems_of_formulas_are_determined.Goals as goal

pub returns : goal.returns
returns c = formulas_are_determined
