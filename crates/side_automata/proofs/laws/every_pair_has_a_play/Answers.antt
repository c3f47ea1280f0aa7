use Rattle.side_automata.proofs.PlayLaws.{every_pair_has_a_play}
use Rattle.side_automata.proofs.laws.every_pair_has_a_play.Goals as goal

pub returns : goal.returns
returns c system environment is_system is_environment partners = every_pair_has_a_play system environment is_system is_environment partners
