use Rattle.solve_ground.proofs.Determined.{determined}
use Rattle.solve_ground.proofs.laws.texts_are_determined.Goals as goal

pub returns : goal.returns
returns c = determined
