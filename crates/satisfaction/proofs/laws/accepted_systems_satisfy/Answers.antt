use Rattle.satisfaction.proofs.Owed.{accepted_systems_satisfy}
use Rattle.satisfaction.proofs.laws.accepted_systems_satisfy.Goals as goal

pub returns : goal.returns
returns c = accepted_systems_satisfy
