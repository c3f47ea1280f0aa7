use Rattle.std.proofs.Common.{take}
use Rattle.machine_model.specs.Marked.{IsPass}
use Rattle.machine_model.proofs.marks.mark_from_first.Given as goal

abbrev pub invariant-loop-edge : goal.invariant-loop-edge
invariant-loop-edge l = IsPass l.way (take l.edge-index l.automaton.edges) l.fn.marks l.marks l.grows
