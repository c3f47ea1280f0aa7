use Rattle.machine_model.proofs.Classes.{classes}
use Rattle.machine_model.proofs.laws.components_are_classes.Goals as goal

pub returns : goal.returns
returns c = classes
