use Rattle.circuit_machines.proofs.Wholes.{circuits_are_machines}
use Rattle.circuit_machines.proofs.laws.circuits_are_machines.Goals as goal

pub returns : goal.returns
returns c = circuits_are_machines
