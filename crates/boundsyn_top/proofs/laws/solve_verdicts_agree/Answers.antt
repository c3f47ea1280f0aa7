use Rattle.boundsyn_top.proofs.SolveLemmas.{verdicts_agree}
use Rattle.boundsyn_top.proofs.laws.solve_verdicts_agree.Goals as goal

pub returns : goal.returns
returns c = verdicts_agree c.trees_are_determined.ensures c.never_both.ensures
