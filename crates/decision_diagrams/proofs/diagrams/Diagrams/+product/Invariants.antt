-- Each call goes to a greater level, so it may go one less deep.
use Rattle.decision_diagrams.proofs.diagrams.Diagrams.+product.Given as goal

abbrev pub decreases-product : goal.decreases-product
decreases-product l = l.depth
