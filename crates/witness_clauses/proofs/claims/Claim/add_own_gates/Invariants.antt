use Rattle.std.proofs.Common.{◌≡◌, ◌++◌, take}
use Rattle.truth_witness.specs.Clauses.{conjoined}
use Rattle.truth_witness.specs.Variables.{gate_literal}
use Rattle.truth_witness.specs.Frames.{numbered}
use Rattle.witness_clauses.proofs.claims.Claim.add_own_gates.Given as goal

abbrev pub invariant-loop-place : goal.invariant-loop-place
invariant-loop-place l =
    l.clauses.items
    ≡ l.fn.clauses.items ++ numbered (λ k operands. conjoined (gate_literal l.self k) operands.left operands.right) 0 (take l.place l.gates)
