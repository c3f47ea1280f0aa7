use Rattle.letters_and_lassos.proofs.Positions.{steps_stay_within as law}
use Rattle.letters_and_lassos.proofs.laws.steps_stay_within.Goals as goal

pub returns : goal.returns
returns c = law
