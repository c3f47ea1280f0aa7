use Rattle.ltl_formula.proofs.Futures.{truth_is_of_the_future as law}
use Rattle.ltl_formula.proofs.laws.truth_is_of_the_future.Goals as goal

pub returns : goal.returns
returns c = law
