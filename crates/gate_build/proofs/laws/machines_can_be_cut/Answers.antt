use Rattle.gate_build.proofs.Cuts.{machines_can_be_cut}
use Rattle.gate_build.proofs.laws.machines_can_be_cut.Goals as goal

pub returns : goal.returns
returns c = machines_can_be_cut
