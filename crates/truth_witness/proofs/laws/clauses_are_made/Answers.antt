use Rattle.truth_witness.proofs.Making.{clauses_are_made as law}
use Rattle.truth_witness.proofs.laws.clauses_are_made.Goals as goal

pub returns : goal.returns
returns c = law
