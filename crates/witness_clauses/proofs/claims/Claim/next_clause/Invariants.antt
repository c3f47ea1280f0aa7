use Rattle.std.proofs.Common.{◌≡◌, take}
use Rattle.std.specs.Prelude.{map}
use Rattle.truth_witness.specs.Variables.{shifted}
use Rattle.witness_clauses.proofs.claims.Claim.next_clause.Given as goal

abbrev pub invariant-loop-lit : goal.invariant-loop-lit
invariant-loop-lit l = l.next.items ≡ map (shifted l.self) (take l.lit-index l.lits)
