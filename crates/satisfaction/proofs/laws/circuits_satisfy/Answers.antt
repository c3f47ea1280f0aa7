use Rattle.satisfaction.proofs.Owed.{circuits_satisfy}
use Rattle.satisfaction.proofs.laws.circuits_satisfy.Goals as goal

pub returns : goal.returns
returns c = circuits_satisfy
