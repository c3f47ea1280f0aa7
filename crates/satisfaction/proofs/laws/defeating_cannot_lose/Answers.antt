use Rattle.satisfaction.proofs.Owed.{defeating_cannot_lose}
use Rattle.satisfaction.proofs.laws.defeating_cannot_lose.Goals as goal

pub returns : goal.returns
returns c = defeating_cannot_lose
