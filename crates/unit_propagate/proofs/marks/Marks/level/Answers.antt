use Rattle.std.proofs.Common.{sym}
use Rattle.unit_propagate.proofs.MarksLemmas.{last_level}
use Rattle.unit_propagate.proofs.marks.Marks.level.Goals as goal

pub returns-in-Some-clause-value : goal.returns-in-Some-clause-value
returns-in-Some-clause-value c =
    rw (← c.self.view_is) (last_level c.self.inside.vars c.self.inside.marks.items c.in-Some.mark.now c.self.invariant.trail
    (rw c.deref.ensures.value at (sym c.in-Some.ensures.value)))
