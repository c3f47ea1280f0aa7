use Rattle.satisfaction.proofs.Owed.{accepted_environments_defeat}
use Rattle.satisfaction.proofs.laws.accepted_environments_defeat.Goals as goal

pub returns : goal.returns
returns c = accepted_environments_defeat
