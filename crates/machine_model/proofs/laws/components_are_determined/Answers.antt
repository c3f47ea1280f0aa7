use Rattle.machine_model.proofs.Naming.{one_components}
use Rattle.machine_model.proofs.laws.components_are_determined.Goals as goal

pub returns : goal.returns
returns c = one_components
