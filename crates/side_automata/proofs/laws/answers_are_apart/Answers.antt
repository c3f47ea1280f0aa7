use Rattle.side_automata.proofs.Sides.{answers_are_apart}
use Rattle.side_automata.proofs.laws.answers_are_apart.Goals as goal

pub returns : goal.returns
returns c = answers_are_apart
