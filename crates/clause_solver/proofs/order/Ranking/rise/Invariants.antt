use Rattle.clause_solver.proofs.order.Ranking.rise.Given as goal

abbrev pub decreases-loop-place : goal.decreases-loop-place
decreases-loop-place l = l.place
