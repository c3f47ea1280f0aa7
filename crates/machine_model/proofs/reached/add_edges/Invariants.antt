use Rattle.std.proofs.Common.{take}
use Rattle.machine_model.specs.Automaton.{states_of}
use Rattle.machine_model.proofs.Closure.{HaveEdges}
use Rattle.machine_model.proofs.reached.add_edges.Given as goal

abbrev pub invariant-loop-edge : goal.invariant-loop-edge
invariant-loop-edge l = HaveEdges (states_of l.automaton) (take l.edge-index l.automaton.edges) l.sets
