use Rattle.std.proofs.Common.{rules}
use Rattle.unit_propagate.proofs.MarksLemmas.{IsMarks-new}
use Rattle.unit_propagate.proofs.marks.Marks.new.Goals as goal

pub invariant_of-result : goal.invariant_of-result
invariant_of-result c =
    IsMarks-new c.args.vars _ _ c.in_ok-slots.slots.items c.in_ok-trues.trues.items _ c.in_ok-marks.ensures.items (Prim.search rules) (c.in_ok-slots.ensures.items_if_clones_equal (λ y h. search rules))
    (c.in_ok-trues.ensures.items_if_clones_equal (λ y h. search rules)) c.in_ok-marks.ensures.exact
