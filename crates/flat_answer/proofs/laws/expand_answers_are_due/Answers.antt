use Rattle.flat_answer.proofs.ExpandOnce.{are_due}
use Rattle.flat_answer.proofs.laws.expand_answers_are_due.Goals as goal

pub returns : goal.returns
returns c = are_due c.flat_faults_are_determined.ensures c.flat_texts_are_determined.ensures c.flat_texts_have_no_fault.ensures
