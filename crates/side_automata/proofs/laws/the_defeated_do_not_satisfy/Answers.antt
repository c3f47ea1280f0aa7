use Rattle.side_automata.proofs.Defeats.{the_defeated_do_not_satisfy}
use Rattle.side_automata.proofs.laws.the_defeated_do_not_satisfy.Goals as goal

pub returns : goal.returns
returns c = the_defeated_do_not_satisfy
