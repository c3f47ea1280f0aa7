use Rattle.core_answer.proofs.CoreLaws.{cores_cannot_be_met}
use Rattle.core_answer.proofs.laws.cores_cannot_be_met.Goals as goal

pub returns : goal.returns
returns c = cores_cannot_be_met
