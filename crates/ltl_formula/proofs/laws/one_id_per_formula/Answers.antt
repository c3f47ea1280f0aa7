use Rattle.ltl_formula.proofs.Lists.{one_id_per_formula as law}
use Rattle.ltl_formula.proofs.laws.one_id_per_formula.Goals as goal

pub returns : goal.returns
returns c = law
