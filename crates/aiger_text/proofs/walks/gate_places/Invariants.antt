use Rattle.std.proofs.Common.{◌≡◌, length}
use Rattle.aiger_text.specs.Walks.{FindsUpTo}
use Rattle.aiger_text.proofs.walks.gate_places.Given as goal

abbrev pub invariant-loop-place : goal.invariant-loop-place
invariant-loop-place l = (length l.places.items ≡ l.variables) × (FindsUpTo l.gates l.places.items l.place)
