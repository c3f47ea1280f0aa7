use Rattle.std.proofs.Common.{drop}
use Rattle.machine_model.specs.Marked.{IsPass}
use Rattle.machine_model.proofs.marks.mark_from_last.Given as goal

abbrev pub invariant-loop-place : goal.invariant-loop-place
invariant-loop-place l = IsPass l.way (drop l.place l.automaton.edges) l.fn.marks l.marks l.grows
