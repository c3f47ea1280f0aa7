use Rattle.std.proofs.Common.{◌≡◌, ◌+◌, drop}
use Rattle.truth_witness.specs.Variables.{place_of}
use Rattle.witness_clauses.proofs.ids.place_of.Given as goal

abbrev pub invariant-loop-place : goal.invariant-loop-place
invariant-loop-place l = place_of l.id l.ids ≡ l.place + place_of l.id (drop l.place l.ids)
