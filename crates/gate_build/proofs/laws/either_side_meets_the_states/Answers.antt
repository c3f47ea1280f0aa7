use Rattle.gate_build.proofs.Smallest.{either_side_meets}
use Rattle.gate_build.proofs.laws.either_side_meets_the_states.Goals as goal

pub returns : goal.returns
returns c = either_side_meets
