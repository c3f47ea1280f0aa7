use Rattle.machine_model.proofs.Closure.{ArePassedBelow}
use Rattle.machine_model.proofs.reached.pass_on.Given as goal

abbrev pub invariant-loop-set : goal.invariant-loop-set
invariant-loop-set l = ArePassedBelow l.set-index l.k l.fn.sets l.sets
