use Rattle.side_automata.proofs.PlayLaws.{plays_are_one_word}
use Rattle.side_automata.proofs.laws.plays_are_one_word.Goals as goal

pub returns : goal.returns
returns c system environment v w is_system is_environment partners of_v of_w = plays_are_one_word system environment v w is_system is_environment partners of_v of_w
