use Rattle.std.proofs.Common.{take}
use Rattle.std.specs.Prelude.{All}
use Rattle.product_bound.specs.Kept.{KeepsEdge}
use Rattle.product_bound.proofs.annotations.keeps_edges.Given as goal

abbrev pub invariant-loop-edge : goal.invariant-loop-edge
invariant-loop-edge l = All (KeepsEdge l.problem l.machine l.numbers l.t l.read) (take l.edge-index l.edges)
