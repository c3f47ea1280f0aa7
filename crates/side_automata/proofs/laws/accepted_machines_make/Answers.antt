use Rattle.side_automata.proofs.Defeats.{accepted_machines_make}
use Rattle.side_automata.proofs.laws.accepted_machines_make.Goals as goal

pub returns : goal.returns
returns c = accepted_machines_make
