use Rattle.batch_answer.proofs.ReadBack.{batches_are_read_back}
use Rattle.batch_answer.proofs.laws.batches_are_read_back.Goals as goal

pub returns : goal.returns
returns c = batches_are_read_back
