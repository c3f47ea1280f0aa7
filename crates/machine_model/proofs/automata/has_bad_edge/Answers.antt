use Rattle.std.proofs.Common.{◌≤◌, ◌⊎◌, inl, inr, sym}
use Rattle.machine_model.proofs.automata.has_bad_edge.Goals as goal
use Rattle.machine_model.proofs.automata.has_bad_edge.Goals.{then-edge-states-via-then-edge-states, then-edge-states-via-else-edge-states+then-edge-states-2}

pub returns-then-edge-states-clause-some : goal.returns-then-edge-states-clause-some
returns-then-edge-states-clause-some c =
    let out : (c.args.states ≤ c.edge-item.result.from) ⊎ (c.args.states ≤ c.edge-item.result.to) = elim c.then-edge-states.branch [
      | then-edge-states-via-then-edge-states w ↦ inl w.if-edge-states.true
      | then-edge-states-via-else-edge-states+then-edge-states-2 w ↦ inr w.if-edge-states-2.true
    ] in
    (c.loop-edge.edge-index, c.edge-item.result, c.loop-edge-test.true, sym c.edge-item.is, out)
