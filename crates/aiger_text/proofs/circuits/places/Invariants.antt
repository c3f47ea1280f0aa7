use Rattle.aiger_text.specs.CircuitType.{ArePlaces}
use Rattle.aiger_text.proofs.circuits.places.Given as goal

abbrev pub invariant-loop-place : goal.invariant-loop-place
invariant-loop-place l = ArePlaces l.place l.places.items
