use Rattle.taken_laws.proofs.Taken.{given_kinds}
use Rattle.taken_laws.proofs.laws.own_kinds_are_given.Goals as goal

pub returns : goal.returns
returns c = given_kinds c.trees_are_determined.ensures c.trees_have_no_fault.ensures
