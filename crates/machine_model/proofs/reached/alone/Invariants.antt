use Rattle.machine_model.specs.Reached.{AreAlone}
use Rattle.machine_model.proofs.reached.alone.Given as goal

abbrev pub invariant-loop-q : goal.invariant-loop-q
invariant-loop-q l = AreAlone l.q l.sets.items
