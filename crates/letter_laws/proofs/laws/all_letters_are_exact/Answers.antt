use Rattle.letter_laws.proofs.Exact.{all_letters_are_exact}
use Rattle.letter_laws.proofs.laws.all_letters_are_exact.Goals as goal

pub returns : goal.returns
returns c = all_letters_are_exact c.accepted_is_met.ensures c.unmet_has_no_accepted.ensures c.met_is_decoded.ensures
