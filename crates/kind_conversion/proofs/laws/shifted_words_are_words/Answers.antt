use Rattle.kind_conversion.proofs.ShiftedLetters.{shifted_words_are_words as law}
use Rattle.kind_conversion.proofs.laws.shifted_words_are_words.Goals as goal

pub returns : goal.returns
returns c = law
