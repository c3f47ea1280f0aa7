-- Each call goes to a greater level, so it may go one less deep.
use Rattle.decision_diagrams.proofs.diagrams.Diagrams.+conjunction.Given as goal

abbrev pub decreases-conjunction : goal.decreases-conjunction
decreases-conjunction l = l.depth
