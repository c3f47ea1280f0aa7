use Rattle.unit_propagate.proofs.LawsLemmas.{going_back_keeps_sound}
use Rattle.unit_propagate.proofs.laws.going_back_keeps_sound.Goals as goal

pub returns : goal.returns
returns c = going_back_keeps_sound
