use Rattle.std.proofs.Common.{◌≡◌, ◌++◌, drop}
use Rattle.std.specs.Prelude.{map}
use Rattle.truth_witness.specs.Variables.{shifted}
use Rattle.truth_witness.specs.Falls.{differs}
use Rattle.witness_clauses.proofs.claims.Claim.push_differs_next.Given as goal

abbrev pub invariant-loop-place : goal.invariant-loop-place
invariant-loop-place l =
    l.lits.items ++ map (shifted l.self) (differs l.number (drop l.place l.bits)) ≡ l.fn.lits.items ++ map (shifted l.self) (differs l.number l.bits)
