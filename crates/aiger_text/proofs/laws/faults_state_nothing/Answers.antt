use Rattle.aiger_text.proofs.FileFacts.{faults_state_nothing}
use Rattle.aiger_text.proofs.laws.faults_state_nothing.Goals as goal

pub returns : goal.returns
returns c = faults_state_nothing
