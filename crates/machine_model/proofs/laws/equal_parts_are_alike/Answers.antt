use Rattle.machine_model.proofs.PartsLemmas.{alike}
use Rattle.machine_model.proofs.laws.equal_parts_are_alike.Goals as goal

pub returns : goal.returns
returns c = alike
