-- Each call goes to a greater level, so it may go one less deep.
use Rattle.decision_diagrams.proofs.diagrams.Diagrams.+composed.Given as goal

abbrev pub decreases-composed : goal.decreases-composed
decreases-composed l = l.depth
