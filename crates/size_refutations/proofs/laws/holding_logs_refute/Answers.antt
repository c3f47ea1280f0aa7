use Rattle.size_refutations.proofs.Refuted.{holding_logs_refute}
use Rattle.size_refutations.proofs.laws.holding_logs_refute.Goals as goal

pub returns : goal.returns
returns c = holding_logs_refute c.automata_keep_limits.ensures c.the_automaton_accepts_exactly.ensures c.closed_logs_refute.ensures
