use Rattle.std.proofs.Common.{◌≡◌, take}
use Rattle.std.specs.Prelude.{map}
use Rattle.truth_witness.specs.Variables.{shifted}
use Rattle.witness_clauses.proofs.claims.Claim.next_position.Given as goal

abbrev pub invariant-loop-clause : goal.invariant-loop-clause
invariant-loop-clause l = l.next.items ≡ map (map (shifted l.self)) (take l.clause-index l.clauses)
