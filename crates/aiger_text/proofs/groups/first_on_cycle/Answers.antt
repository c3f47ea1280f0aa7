use Rattle.std.proofs.Common.{◌<◌, arith}
use Rattle.aiger_text.proofs.TourDone.{first_of_tour}
use Rattle.aiger_text.proofs.groups.first_on_cycle.Goals as goal

pub returns : goal.returns
returns c =
    first_of_tour c.args.gates.now c.loop-place.tour.stages.items c.loop-place.tour.opened.items c.loop-place.tour.path.items c.loop-place.tour.starts.items c.first_cyclic.result c.loop-place.invariant.0
    (λ k h. let before : k < c.loop-place.place = omega arith in c.loop-place.invariant.2 k before) (rw c.deref.ensures.value at c.first_cyclic.ensures)
