use Rattle.lasso_word.proofs.Stating.{readings_are_apart as law}
use Rattle.lasso_word.proofs.laws.readings_are_apart.Goals as goal

pub returns : goal.returns
returns c = law
