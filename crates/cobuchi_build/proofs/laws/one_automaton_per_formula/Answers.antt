use Rattle.cobuchi_build.proofs.Rounds.{one_automaton_per_formula}
use Rattle.cobuchi_build.proofs.laws.one_automaton_per_formula.Goals as goal

pub returns : goal.returns
returns c = one_automaton_per_formula
