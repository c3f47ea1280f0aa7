use Rattle.size_refutations.proofs.Determined.{logs_are_determined}
use Rattle.size_refutations.proofs.laws.logs_are_determined.Goals as goal

pub returns : goal.returns
returns c = logs_are_determined c.faults_are_apart.ensures c.one_automaton_per_formula.ensures
