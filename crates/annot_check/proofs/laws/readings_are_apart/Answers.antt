use Rattle.annot_check.proofs.Readings.{readings_are_apart as law}
use Rattle.annot_check.proofs.laws.readings_are_apart.Goals as goal

pub returns : goal.returns
returns c = law
