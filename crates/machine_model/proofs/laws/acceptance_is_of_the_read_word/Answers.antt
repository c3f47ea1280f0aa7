use Rattle.machine_model.proofs.Determined.{runs_are_determined}
use Rattle.machine_model.proofs.Paths.{accepted_too}
use Rattle.machine_model.proofs.laws.acceptance_is_of_the_read_word.Goals as goal

pub returns : goal.returns
returns c a m side v w s t run_v run_w same accepted = accepted_too a v w run_w.ring (runs_are_determined m side v w s t run_v run_w same) accepted
