use Rattle.std.proofs.Common.{◌≡◌, ◌++◌, take}
use Rattle.std.specs.List.{flat_map}
use Rattle.truth_witness.specs.Clauses.{conjoined}
use Rattle.witness_clauses.proofs.frames.add_gates.Given as goal

abbrev pub invariant-loop-gate : goal.invariant-loop-gate
invariant-loop-gate l = l.clauses.items ≡ l.fn.clauses.items ++ flat_map (λ gate. conjoined gate.literal gate.left gate.right) (take l.gate-index l.gates)
