use Rattle.boundsyn_top.proofs.PrintedLemmas.{runs_are_accepted}
use Rattle.boundsyn_top.proofs.laws.printed_is_accepted.Goals as goal

pub returns-clause-answers : goal.returns-clause-answers
returns-clause-answers c = c.printed_is_accepted.ensures

pub returns-clause-solutions : goal.returns-clause-solutions
returns-clause-solutions c = c.solutions_are_accepted.ensures

pub returns-clause-runs : goal.returns-clause-runs
returns-clause-runs c = runs_are_accepted c.printed_is_accepted.ensures c.solutions_are_accepted.ensures
