use Rattle.annotation_encode.proofs.Further.{equal_clauses}
use Rattle.annotation_encode.proofs.laws.equal_parts_have_equal_clauses.Goals as goal

pub returns : goal.returns
returns c = equal_clauses
