use Rattle.machine_model.proofs.ComponentsOf.{are_components, components_are}
use Rattle.machine_model.proofs.laws.components_are_computed.Goals as goal

pub returns : goal.returns
returns c = λ a. record { are = are_components a; alone = components_are a }
