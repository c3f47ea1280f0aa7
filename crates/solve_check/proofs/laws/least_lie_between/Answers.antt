use Rattle.solve_check.proofs.Bounds.{least_lie_between}
use Rattle.solve_check.proofs.laws.least_lie_between.Goals as goal

pub returns : goal.returns
returns c = least_lie_between c.no_small_circuit_satisfies.ensures c.no_small_circuit_defeats.ensures c.defeating_cannot_lose.ensures
