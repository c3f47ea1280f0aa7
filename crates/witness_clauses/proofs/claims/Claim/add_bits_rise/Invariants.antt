use Rattle.std.proofs.Common.{◌≡◌, ◌++◌, drop}
use Rattle.truth_witness.specs.Falls.{bits_rise}
use Rattle.witness_clauses.proofs.claims.Claim.add_bits_rise.Given as goal

abbrev pub invariant-loop-place : goal.invariant-loop-place
invariant-loop-place l = l.clauses.items ≡ l.fn.clauses.items ++ bits_rise l.self (drop l.place l.bits)
