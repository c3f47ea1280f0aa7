use Rattle.ltl_formula.proofs.Futures.{operators_mean as law}
use Rattle.ltl_formula.proofs.laws.operators_mean.Goals as goal

pub returns : goal.returns
returns c = law
