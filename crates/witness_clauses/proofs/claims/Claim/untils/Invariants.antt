use Rattle.std.proofs.Common.{◌≡◌, take}
use Rattle.std.specs.List.{flat_map}
use Rattle.ltl_formula.specs.Nodes.{node_at}
use Rattle.truth_witness.specs.Falls.{awaited_in}
use Rattle.witness_clauses.proofs.claims.Claim.untils.Given as goal

abbrev pub invariant-loop-id : goal.invariant-loop-id
invariant-loop-id l = l.found.items ≡ flat_map (λ g. awaited_in l.self g (node_at l.self.nodes g)) (take l.id-index l.ids)
