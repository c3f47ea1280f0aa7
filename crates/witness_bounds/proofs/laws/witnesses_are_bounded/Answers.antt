use Rattle.witness_bounds.proofs.Bounded.{are_bounded}
use Rattle.witness_bounds.proofs.laws.witnesses_are_bounded.Goals as goal

pub returns : goal.returns
returns c = are_bounded
