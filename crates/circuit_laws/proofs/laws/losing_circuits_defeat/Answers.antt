use Rattle.circuit_laws.proofs.Owing.{losing_circuits_defeat}
use Rattle.circuit_laws.proofs.laws.losing_circuits_defeat.Goals as goal

pub returns : goal.returns
returns c = losing_circuits_defeat c.circuits_have_states.ensures c.circuits_are_machines.ensures c.every_pair_has_a_play.ensures
