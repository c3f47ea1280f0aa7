use Rattle.std.proofs.Common.{◌≡◌, ◌≤◌, ◌^◌, ap, arith}
use Rattle.aiger_text.specs.Circuit.{Circuit}
use Rattle.truth_witness.specs.Variables.{frame_size}
use Rattle.witness_clauses.specs.Counted.{claim_of}
use Rattle.witness_clauses.proofs.Bounds.{latches_small}
use Rattle.witness_clauses.proofs.claims.Claim.step.Goals as goal

pub add_moves-requires : goal.add_moves-requires
add_moves-requires c =
    let same : c.circuit.inside.variables ≡ c.self.inside.claimed.circuit.now.variables = ap (λ (k : Circuit). k.variables) c.circuit.view_is in
    let small : frame_size (claim_of c.self.inside.claimed) ≤ 2 ^ 28 = c.self.invariant.countable.small in
    rw c.deref.ensures.value (latches_small _ c.circuit.invariant.0 (omega arith))
