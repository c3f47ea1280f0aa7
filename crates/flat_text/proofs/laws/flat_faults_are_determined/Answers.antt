use Rattle.flat_text.proofs.OneFault.{one_fault}
use Rattle.flat_text.proofs.laws.flat_faults_are_determined.Goals as goal

pub returns : goal.returns
returns c = one_fault
