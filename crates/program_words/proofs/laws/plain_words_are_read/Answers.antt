use Rattle.program_words.proofs.PlainLaws.{plain_words_are_read as law}
use Rattle.program_words.proofs.laws.plain_words_are_read.Goals as goal

pub returns : goal.returns
returns c = law
