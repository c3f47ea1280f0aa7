use Rattle.std.proofs.Common.{◌≡◌, sym, ap, ◌∙◌}
use Rattle.unit_propagate.specs.declared.marks.Mark.{Mark}
use Rattle.conflict_learn.proofs.LevelLemmas.{level_at, level_none}
use Rattle.conflict_learn.proofs.analysis.level_of.Goals as goal

pub returns-in-Some : goal.returns-in-Some
returns-in-Some c =
    let h = c.in-Some.ensures.some in
    let m : Mark = record { lit = c.at.result.0; level = c.at.result.1; reason = c.at.result.2 } in
    let a = h.1 in
    let b = c.at.ensures in
    let same : h.0 ≡ m = cc in
    sym (level_at c.args.trail.now.vars c.args.trail.now.marks c.in-Some.place h.0 c.args.var c.place.ensures.trail h.1 h.2 ∙ ap (λ (x : Mark). x.level) same)

pub returns-in-None : goal.returns-in-None
returns-in-None c = sym (level_none c.args.trail.now.marks c.args.var c.in-None.ensures.none)
