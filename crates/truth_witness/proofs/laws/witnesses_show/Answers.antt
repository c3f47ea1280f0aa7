use Rattle.truth_witness.proofs.Showing.{witnesses_show as law}
use Rattle.truth_witness.proofs.laws.witnesses_show.Goals as goal

pub returns : goal.returns
returns c = law c.logs_are_sound.ensures
