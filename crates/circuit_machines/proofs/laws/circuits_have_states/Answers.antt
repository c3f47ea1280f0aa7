use Rattle.circuit_machines.proofs.States.{circuits_have_states}
use Rattle.circuit_machines.proofs.laws.circuits_have_states.Goals as goal

pub returns : goal.returns
returns c = circuits_have_states
