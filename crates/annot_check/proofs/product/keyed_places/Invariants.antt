use Rattle.std.proofs.Common.{map}
use Rattle.annot_check.specs.declared.product.Keyed.{Keyed}
use Rattle.annot_check.specs.Steps.{ArePlaces}
use Rattle.annot_check.proofs.product.keyed_places.Given as goal

abbrev pub invariant-loop-place : goal.invariant-loop-place
invariant-loop-place l = ArePlaces l.place (map (λ (k : Keyed). k.place) l.keyed.items)
