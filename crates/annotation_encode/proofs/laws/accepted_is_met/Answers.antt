use Rattle.annotation_encode.proofs.Further.{met_by_assigned}
use Rattle.annotation_encode.proofs.laws.accepted_is_met.Goals as goal

pub returns : goal.returns
returns c = met_by_assigned c.accepted_is_annotated.ensures
