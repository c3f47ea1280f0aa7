use Rattle.boundsyn_top.proofs.RefusalLemmas.{determined}
use Rattle.boundsyn_top.proofs.laws.refusals_are_determined.Goals as goal

pub returns : goal.returns
returns c =
    determined c.problems_of_texts_are_determined.ensures c.checks_are_determined.ensures c.expand_answers_are_due.ensures c.lasso_answers_are_due.ensures
    c.verifications_are_determined.ensures c.flat_texts_are_determined.ensures c.core_faults_are_determined.ensures c.lists_are_determined.ensures
    c.solve_faults_are_determined.ensures c.environments_are_determined.ensures c.expand_solve_answers_are_due.ensures
    c.lasso_solve_answers_are_due.ensures
