use Rattle.propositional_logic.proofs.Rising.{rising_one, no_tautology}
use Rattle.propositional_logic.proofs.laws.clauses_are_sets.Goals as goal

pub returns : goal.returns
returns c = record { one_order = rising_one 0; no_tautology = no_tautology }
