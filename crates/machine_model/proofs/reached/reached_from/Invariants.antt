use Rattle.machine_model.proofs.Closure.{IsClosedBelow}
use Rattle.machine_model.proofs.reached.reached_from.Given as goal

abbrev pub invariant-loop-k : goal.invariant-loop-k
invariant-loop-k l = IsClosedBelow l.automaton l.k l.sets.items
