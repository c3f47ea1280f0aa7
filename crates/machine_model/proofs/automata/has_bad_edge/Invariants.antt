use Rattle.std.proofs.Common.{ℕ, ◌<◌, get_or}
use Rattle.machine_model.specs.declared.automata.Edge.{Edge}
use Rattle.machine_model.specs.Automaton.{JoinsStates}
use Rattle.machine_model.proofs.automata.has_bad_edge.Given as goal

abbrev pub invariant-loop-edge : goal.invariant-loop-edge
invariant-loop-edge l = (k : ℕ) (d : Edge) → k < l.edge-index → JoinsStates l.states (get_or l.edges k d)
