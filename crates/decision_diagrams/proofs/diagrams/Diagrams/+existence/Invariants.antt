-- Each call goes to a greater level, so it may go one less deep.
use Rattle.decision_diagrams.proofs.diagrams.Diagrams.+existence.Given as goal

abbrev pub decreases-existence : goal.decreases-existence
decreases-existence l = l.depth
