use Rattle.lasso_word.proofs.Stating.{words_are_stated as law}
use Rattle.lasso_word.proofs.laws.words_are_stated.Goals as goal

pub returns : goal.returns
returns c = law
