use Rattle.gate_build.proofs.Smallest.{smallest_meets_all}
use Rattle.gate_build.proofs.laws.smallest_meets_all_states.Goals as goal

pub returns : goal.returns
returns c = smallest_meets_all
