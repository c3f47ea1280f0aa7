use Rattle.text_limits.specs.declared.TheConstants.{LARGE_LIMITS}
use Rattle.solve_ground.proofs.Determined.{determined}
use Rattle.solve_ground.proofs.laws.solve_texts_are_determined.Goals as goal

pub returns : goal.returns
returns c = determined LARGE_LIMITS
