-- Each call goes to a greater level, so it may go one less deep.
use Rattle.decision_diagrams.proofs.diagrams.Diagrams.+difference.Given as goal

abbrev pub decreases-difference : goal.decreases-difference
decreases-difference l = l.depth
