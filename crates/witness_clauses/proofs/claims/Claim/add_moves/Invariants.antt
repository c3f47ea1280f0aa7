use Rattle.std.proofs.Common.{◌≡◌, ◌++◌, take}
use Rattle.std.specs.List.{flat_map}
use Rattle.truth_witness.specs.Clauses.{equal}
use Rattle.truth_witness.specs.Variables.{shifted}
use Rattle.witness_clauses.proofs.claims.Claim.add_moves.Given as goal

abbrev pub invariant-loop-latch : goal.invariant-loop-latch
invariant-loop-latch l = l.clauses.items ≡ l.fn.clauses.items ++ flat_map (λ latch. equal (shifted l.self latch.literal) latch.next) (take l.latch-index l.latches)
