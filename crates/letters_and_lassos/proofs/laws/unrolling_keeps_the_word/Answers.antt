use Rattle.letters_and_lassos.proofs.Unrolled.{unrolling_keeps_the_word as law}
use Rattle.letters_and_lassos.proofs.laws.unrolling_keeps_the_word.Goals as goal

pub returns : goal.returns
returns c = law
