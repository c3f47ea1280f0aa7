use Rattle.ltl_formula.proofs.Futures.{operators_unfold as law}
use Rattle.ltl_formula.proofs.laws.operators_unfold.Goals as goal

pub returns : goal.returns
returns c = law
