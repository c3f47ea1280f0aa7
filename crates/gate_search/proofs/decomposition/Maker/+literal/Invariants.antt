-- Each call may go one less deep.
use Rattle.gate_search.proofs.decomposition.Maker.+literal.Given as goal

abbrev pub decreases-literal : goal.decreases-literal
decreases-literal l = l.deepest
