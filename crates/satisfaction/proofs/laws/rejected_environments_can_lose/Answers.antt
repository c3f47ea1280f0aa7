use Rattle.satisfaction.proofs.Owed.{rejected_environments_can_lose}
use Rattle.satisfaction.proofs.laws.rejected_environments_can_lose.Goals as goal

pub returns : goal.returns
returns c = rejected_environments_can_lose
