use Rattle.bound_laws.proofs.Agreeing.{answers_agree}
use Rattle.bound_laws.proofs.laws.answers_agree.Goals as goal

pub returns : goal.returns
returns c = answers_agree c.documents_are_determined.ensures c.circuits_are_machines.ensures c.taken_texts_want_the_same.ensures c.least_lie_between.ensures
