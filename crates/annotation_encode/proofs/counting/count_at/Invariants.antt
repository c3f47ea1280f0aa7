use Rattle.std.proofs.Common.{◌≡◌, ◌+◌, ◌≤◌, length, take}
use Rattle.std.specs.List.{flat_map}
use Rattle.machine_model.specs.Problem.{sized}
use Rattle.annotation_encode.specs.BaseClauses.{edge_clauses}
use Rattle.annotation_encode.proofs.ClauseCount.{beside_edges}
use Rattle.annotation_encode.proofs.counting.count_at.Given as goal

abbrev pub invariant-loop-edge : goal.invariant-loop-edge
invariant-loop-edge l = record {
  sum : l.total ≡ beside_edges (sized l.problem l.size) + length (flat_map (edge_clauses (sized l.problem l.size)) (take l.edge-index l.edges));
  small : l.total ≤ l.most;
}
