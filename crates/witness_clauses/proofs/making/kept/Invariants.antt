use Rattle.std.proofs.Common.{◌≡◌, take}
use Rattle.std.specs.Prelude.{map, filter, nat_lt}
use Rattle.truth_witness.specs.Clauses.{literal_of}
use Rattle.witness_clauses.proofs.making.kept.Given as goal

abbrev pub invariant-loop-lit : goal.invariant-loop-lit
invariant-loop-lit l = l.kept.items ≡ map literal_of (filter (nat_lt 1) (take l.lit-index l.lits))
