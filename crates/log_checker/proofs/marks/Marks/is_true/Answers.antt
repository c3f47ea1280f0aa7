use Rattle.std.proofs.Common.{◌∙◌, ap, get_or, reverse}
use Rattle.log_checker.proofs.MarkLemmas.{looked_up}
use Rattle.log_checker.proofs.marks.Marks.is_true.Goals as goal

pub returns : goal.returns
returns c =
    let le = rw (← c.self.view_is) at c.requires in
    rw (← c.self.view_is) (c.index.ensures ∙ ap (λ k. get_or c.self.inside.table.items k c.index.result.now) c.place_of.ensures
    ∙ looked_up c.self.inside.vars c.self.inside.table.items (reverse c.self.inside.trail.items) c.args.lit c.index.result.now c.self.invariant le)
