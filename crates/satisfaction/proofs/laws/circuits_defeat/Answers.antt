use Rattle.satisfaction.proofs.Owed.{circuits_defeat}
use Rattle.satisfaction.proofs.laws.circuits_defeat.Goals as goal

pub returns : goal.returns
returns c = circuits_defeat
