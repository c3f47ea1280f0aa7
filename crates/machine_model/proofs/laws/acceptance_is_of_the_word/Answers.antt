use Rattle.machine_model.proofs.Paths.{acceptance_is_of_the_word}
use Rattle.machine_model.proofs.laws.acceptance_is_of_the_word.Goals as goal

pub returns : goal.returns
returns c = acceptance_is_of_the_word
