use Rattle.solve_check.proofs.Same.{never_both}
use Rattle.solve_check.proofs.laws.never_both.Goals as goal

pub returns : goal.returns
returns c = never_both c.circuits_are_machines.ensures c.trees_are_determined.ensures
