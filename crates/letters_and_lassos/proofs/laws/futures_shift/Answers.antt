use Rattle.letters_and_lassos.proofs.Positions.{futures_shift as law}
use Rattle.letters_and_lassos.proofs.laws.futures_shift.Goals as goal

pub returns : goal.returns
returns c = law
