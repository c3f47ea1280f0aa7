use Rattle.std.proofs.Common.{◌≡◌, ◌++◌, drop}
use Rattle.truth_witness.specs.Falls.{differs}
use Rattle.witness_clauses.proofs.falls.push_differs.Given as goal

abbrev pub invariant-loop-place : goal.invariant-loop-place
invariant-loop-place l = l.lits.items ++ differs l.number (drop l.place l.bits) ≡ l.fn.lits.items ++ differs l.number l.bits
