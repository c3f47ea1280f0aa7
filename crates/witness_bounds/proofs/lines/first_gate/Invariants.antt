use Rattle.std.proofs.Common.{◌≡◌, drop}
use Rattle.witness_bounds.specs.Lines.{first_refused, are_before}
use Rattle.witness_bounds.proofs.lines.first_gate.Given as goal

abbrev pub invariant-loop-place : goal.invariant-loop-place
invariant-loop-place l = first_refused (are_before l.bounds) 0 l.gates ≡ first_refused (are_before l.bounds) l.place (drop l.place l.gates)
