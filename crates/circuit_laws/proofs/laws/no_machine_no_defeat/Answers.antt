use Rattle.circuit_laws.proofs.Owing.{no_machine_no_defeat}
use Rattle.circuit_laws.proofs.laws.no_machine_no_defeat.Goals as goal

pub returns : goal.returns
returns c = no_machine_no_defeat c.circuits_are_machines.ensures c.defeating_cannot_lose.ensures
