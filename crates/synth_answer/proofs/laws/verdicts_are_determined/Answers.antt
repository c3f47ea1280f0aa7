use Rattle.synth_answer.proofs.Numbers.{verdicts_are_determined}
use Rattle.synth_answer.proofs.laws.verdicts_are_determined.Goals as goal

pub returns : goal.returns
returns c = verdicts_are_determined c.trees_are_determined.ensures c.documents_are_determined.ensures c.defeating_cannot_lose.ensures
