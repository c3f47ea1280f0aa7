use Rattle.named_annotation.proofs.Readings.{named_readings_are_apart as law}
use Rattle.named_annotation.proofs.laws.named_readings_are_apart.Goals as goal

pub returns : goal.returns
returns c = law
