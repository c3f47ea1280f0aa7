use Rattle.machine_model.proofs.Unrolled.{runs_unroll}
use Rattle.machine_model.proofs.laws.runs_unroll.Goals as goal

pub returns : goal.returns
returns c = runs_unroll
