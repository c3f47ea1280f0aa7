use Rattle.circuit_laws.proofs.Owing.{no_machine_no_circuit}
use Rattle.circuit_laws.proofs.laws.no_machine_no_circuit.Goals as goal

pub returns : goal.returns
returns c = no_machine_no_circuit c.circuits_are_machines.ensures
