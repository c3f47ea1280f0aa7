use Rattle.circuit_laws.proofs.Owing.{no_small_circuit_defeats}
use Rattle.circuit_laws.proofs.laws.no_small_circuit_defeats.Goals as goal

pub returns : goal.returns
returns c = no_small_circuit_defeats c.circuits_are_machines.ensures c.defeating_cannot_lose.ensures
