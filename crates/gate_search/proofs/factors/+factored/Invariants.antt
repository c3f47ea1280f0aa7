-- Each call may go one less deep.
use Rattle.gate_search.proofs.factors.+factored.Given as goal

abbrev pub decreases-factored : goal.decreases-factored
decreases-factored l = l.deepest
