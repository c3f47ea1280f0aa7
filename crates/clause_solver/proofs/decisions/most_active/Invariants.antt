use Rattle.clause_solver.proofs.decisions.most_active.Given as goal

abbrev pub decreases-loop-var : goal.decreases-loop-var
decreases-loop-var l = l.order.size
