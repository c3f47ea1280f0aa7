use Rattle.unit_propagate.proofs.TrailLemmas.{at_place}
use Rattle.unit_propagate.proofs.trail.Trail.value.Goals as goal

pub returns-clause-some : goal.returns-clause-some
returns-clause-some c =
    let h = c.in_ok-slot.ensures.some in
    rw (← c.self.view_is) (at_place c.self.inside.state.marks.marks c.in_ok-slot.field-0.place h.0 (record { var = c.args.var; positive = c.in_ok-slot.field-0.positive }) h.1 h.2)
