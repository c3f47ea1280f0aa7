use Rattle.circuit_check.proofs.Determined.{determined}
use Rattle.circuit_check.proofs.laws.first_bad_lines_are_determined.Goals as goal

pub returns : goal.returns
returns c =
    determined c.files_state_one_thing.ensures c.files_have_one_fault.ensures c.faults_state_nothing.ensures c.named_readings_are_apart.ensures
