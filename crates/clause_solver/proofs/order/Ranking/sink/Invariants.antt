use Rattle.std.proofs.Common.{◌-◌}
use Rattle.clause_solver.proofs.order.Ranking.sink.Given as goal

abbrev pub decreases-loop-child : goal.decreases-loop-child
decreases-loop-child l = l.size - l.place
