use Rattle.letter_laws.proofs.Exact.{met_is_decoded}
use Rattle.letter_laws.proofs.laws.met_is_decoded.Goals as goal

pub returns : goal.returns
returns c = met_is_decoded c.all_letters_are_version_three.ensures c.joined_is_reached.ensures
