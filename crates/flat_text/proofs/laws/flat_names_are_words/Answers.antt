use Rattle.flat_text.proofs.NamesOfTrees.{flat_names_are_words as law}
use Rattle.flat_text.proofs.laws.flat_names_are_words.Goals as goal

pub returns : goal.returns
returns c = law
