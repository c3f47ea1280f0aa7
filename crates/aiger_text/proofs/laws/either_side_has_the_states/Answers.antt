use Rattle.aiger_text.proofs.Turned.{either_side}
use Rattle.aiger_text.proofs.laws.either_side_has_the_states.Goals as goal

pub returns : goal.returns
returns c = either_side
