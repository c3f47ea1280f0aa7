use Rattle.std.proofs.Common.{◌≡◌, ◌++◌, take}
use Rattle.std.specs.Prelude.{map}
use Rattle.truth_witness.specs.Clauses.{opposite}
use Rattle.truth_witness.specs.Obligations.{now}
use Rattle.witness_clauses.proofs.obligations.add_not_starts.Given as goal

abbrev pub invariant-loop-part : goal.invariant-loop-part
invariant-loop-part l = l.clauses.items ≡ l.fn.clauses.items ++ map (λ part. now (opposite part.start)) (take l.part-index l.parts)
