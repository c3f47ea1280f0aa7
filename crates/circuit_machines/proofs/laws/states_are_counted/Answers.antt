use Rattle.circuit_machines.proofs.States.{states_are_counted}
use Rattle.circuit_machines.proofs.laws.states_are_counted.Goals as goal

pub returns : goal.returns
returns c = states_are_counted
