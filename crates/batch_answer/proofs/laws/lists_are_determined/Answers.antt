use Rattle.batch_answer.proofs.ListLemmas.{determined}
use Rattle.batch_answer.proofs.laws.lists_are_determined.Goals as goal

pub returns : goal.returns
returns c = determined
