use Rattle.cobuchi_build.proofs.Accepting.{the_automaton_accepts_exactly}
use Rattle.cobuchi_build.proofs.laws.the_automaton_accepts_exactly.Goals as goal

pub returns : goal.returns
returns c = the_automaton_accepts_exactly
