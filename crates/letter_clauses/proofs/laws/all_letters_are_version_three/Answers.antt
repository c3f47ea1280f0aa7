use Rattle.letter_clauses.proofs.AllLetters.{all_letters_are_version_three}
use Rattle.letter_clauses.proofs.laws.all_letters_are_version_three.Goals as goal

pub returns : goal.returns
returns c = all_letters_are_version_three
