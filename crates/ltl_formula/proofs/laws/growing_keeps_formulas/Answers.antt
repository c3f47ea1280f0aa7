use Rattle.ltl_formula.proofs.Trees.{tree_at-grown as law}
use Rattle.ltl_formula.proofs.laws.growing_keeps_formulas.Goals as goal

pub returns : goal.returns
returns c = law
