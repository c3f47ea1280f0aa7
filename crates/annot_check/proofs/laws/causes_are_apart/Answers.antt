use Rattle.annot_check.proofs.Apart.{causes_are_apart}
use Rattle.annot_check.proofs.laws.causes_are_apart.Goals as goal

pub returns : goal.returns
returns c = causes_are_apart _
