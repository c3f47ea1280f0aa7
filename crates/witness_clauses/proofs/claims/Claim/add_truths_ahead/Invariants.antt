use Rattle.std.proofs.Common.{◌≡◌, ◌++◌, take}
use Rattle.std.specs.List.{flat_map}
use Rattle.ltl_formula.specs.Nodes.{node_at}
use Rattle.truth_witness.specs.Variables.{truth_literal}
use Rattle.truth_witness.specs.Frames.{as_id, node_ahead}
use Rattle.witness_clauses.proofs.claims.Claim.add_truths_ahead.Given as goal

abbrev pub invariant-loop-id : goal.invariant-loop-id
invariant-loop-id l =
    l.clauses.items
    ≡ l.fn.clauses.items ++ flat_map (λ g. node_ahead l.self (truth_literal l.self (as_id g)) (node_at l.self.nodes g)) (take l.id-index l.ids)
