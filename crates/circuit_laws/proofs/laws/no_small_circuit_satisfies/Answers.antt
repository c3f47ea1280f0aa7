use Rattle.circuit_laws.proofs.Owing.{no_small_circuit_satisfies}
use Rattle.circuit_laws.proofs.laws.no_small_circuit_satisfies.Goals as goal

pub returns : goal.returns
returns c = no_small_circuit_satisfies c.circuits_are_machines.ensures
