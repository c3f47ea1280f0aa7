use Rattle.machine_model.specs.Named.{AreNamesBelow}
use Rattle.machine_model.proofs.names.names_by_marks.Given as goal

abbrev pub invariant-loop-q : goal.invariant-loop-q
invariant-loop-q l = AreNamesBelow l.automaton l.q l.names.items
