use Rattle.aiger_text.proofs.Orders.{places_more}
use Rattle.aiger_text.proofs.circuits.places.Goals as goal

pub loop-place-preserved : goal.loop-place-preserved
loop-place-preserved c = rw c.in_ok-push.ensures.items (places_more c.loop-place.place c.loop-place.places.items c.loop-place.invariant)
