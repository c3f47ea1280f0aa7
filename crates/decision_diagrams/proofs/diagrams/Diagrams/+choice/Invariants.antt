-- Each call goes to a greater level, so it may go one less deep.
use Rattle.decision_diagrams.proofs.diagrams.Diagrams.+choice.Given as goal

abbrev pub decreases-choice : goal.decreases-choice
decreases-choice l = l.depth
