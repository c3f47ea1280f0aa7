use Rattle.letters_and_lassos.proofs.Positions.{steps_add_up as law}
use Rattle.letters_and_lassos.proofs.laws.steps_add_up.Goals as goal

pub returns : goal.returns
returns c = law
