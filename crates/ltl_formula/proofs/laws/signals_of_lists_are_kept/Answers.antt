use Rattle.ltl_formula.proofs.ListSignals.{signals_of_lists_are_kept as law}
use Rattle.ltl_formula.proofs.laws.signals_of_lists_are_kept.Goals as goal

pub returns : goal.returns
returns c = law
