use Rattle.truth_witness.proofs.Descent.{ranks_fall as law}
use Rattle.truth_witness.proofs.laws.ranks_fall.Goals as goal

pub returns : goal.returns
returns c = law
