use Rattle.ltl_formula.proofs.Lists.{signals_are_below as law}
use Rattle.ltl_formula.proofs.laws.signals_are_below.Goals as goal

pub returns : goal.returns
returns c = law
