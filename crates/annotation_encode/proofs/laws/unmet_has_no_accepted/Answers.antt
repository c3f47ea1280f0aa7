use Rattle.annotation_encode.proofs.Further.{no_accepted}
use Rattle.annotation_encode.proofs.laws.unmet_has_no_accepted.Goals as goal

pub returns : goal.returns
returns c = no_accepted c.accepted_is_annotated.ensures c.accepted_or_rejected.ensures
