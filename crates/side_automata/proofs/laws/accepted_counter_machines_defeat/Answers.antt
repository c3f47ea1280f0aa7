use Rattle.side_automata.proofs.Defeats.{accepted_counter_machines_defeat}
use Rattle.side_automata.proofs.laws.accepted_counter_machines_defeat.Goals as goal

pub returns : goal.returns
returns c = accepted_counter_machines_defeat
