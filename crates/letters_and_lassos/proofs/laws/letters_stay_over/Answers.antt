use Rattle.letters_and_lassos.proofs.Positions.{letters_stay_over as law}
use Rattle.letters_and_lassos.proofs.laws.letters_stay_over.Goals as goal

pub returns : goal.returns
returns c = law
