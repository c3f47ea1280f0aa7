use Rattle.annotation_encode.proofs.Sizes.{dont_meet}
use Rattle.annotation_encode.proofs.laws.variables_differ.Goals as goal

pub returns : goal.returns
returns c = dont_meet
