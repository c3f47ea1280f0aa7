use Rattle.core_answer.proofs.CoreLaws.{core_faults_are_determined}
use Rattle.core_answer.proofs.laws.core_faults_are_determined.Goals as goal

pub returns : goal.returns
returns c = core_faults_are_determined
