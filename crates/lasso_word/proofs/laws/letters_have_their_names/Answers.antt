use Rattle.lasso_word.proofs.Naming.{letters_have_their_names as law}
use Rattle.lasso_word.proofs.laws.letters_have_their_names.Goals as goal

pub returns : goal.returns
returns c = law
