use Rattle.std.proofs.Common.{slice_get, ap, ◌∙◌}
use Rattle.unit_propagate.proofs.MarksLemmas.{true_seen, true_unseen}
use Rattle.unit_propagate.proofs.marks.Marks.is_true.Goals as goal

pub returns-clause-yes : goal.returns-clause-yes
returns-clause-yes c =
    rw (← c.self.view_is)
    (true_seen c.self.inside.vars c.self.inside.slots.items c.self.inside.trues.items c.self.inside.marks.items _ c.args.lit c.code.result c.flag_at.result c.unwrap_or.result c.self.invariant
    c.code.ensures.value (c.flag_at.ensures ∙ ap (λ xs. slice_get xs c.code.result) c.deref.ensures.value) c.unwrap_or.ensures)

pub returns-clause-no : goal.returns-clause-no
returns-clause-no c =
    rw (← c.self.view_is)
    (true_unseen c.self.inside.vars c.self.inside.slots.items c.self.inside.trues.items c.self.inside.marks.items _ c.args.lit c.code.result c.flag_at.result c.unwrap_or.result c.self.invariant
    c.code.ensures.value (c.flag_at.ensures ∙ ap (λ xs. slice_get xs c.code.result) c.deref.ensures.value) c.unwrap_or.ensures)
