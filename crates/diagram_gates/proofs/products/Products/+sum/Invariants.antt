-- Each call has one variable less to split on.
use Rattle.diagram_gates.proofs.products.Products.+sum.Given as goal

abbrev pub decreases-sum : goal.decreases-sum
decreases-sum l = l.depth
