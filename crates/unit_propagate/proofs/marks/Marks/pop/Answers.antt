use Rattle.unit_propagate.proofs.MarksLemmas.{IsMarks-pop}
use Rattle.unit_propagate.proofs.marks.Marks.pop.Goals as goal

pub invariant_of-self-2 : goal.invariant_of-self-2
invariant_of-self-2 c =
    rw c.code.ensures.value (IsMarks-pop c.self.inside.vars c.self.inside.slots.items c.self.inside.trues.items c.self.inside.marks.items c.pop.new.self.items _ c.in_ok-last.last c.var-var.result _
    c.in_ok-last.ensures.items c.var-var.ensures.value c.pop.ensures.capacity c.self.invariant)
