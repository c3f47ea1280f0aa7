use Rattle.std.proofs.Common.{◌++◌, ◌∷◌, [], ap, ◌∙◌}
use Rattle.conflict_learn.proofs.WholeLemmas.{started_at}
use Rattle.conflict_learn.proofs.analysis.Analysis.new.Goals as goal

pub returns : goal.returns
returns c = λ vars clauses trail named falsified.
    started_at clauses vars c.args.trail.now.marks c.args.number c.args.lits.now c.new-places.result c.add_falsifiers.new.places c.new-lits.result.items c.push.new.self.items trail named falsified
    c.new-places.ensures c.in_ok-add_falsifiers.ensures.all c.add_falsifiers.ensures.only c.new-lits.ensures.items (c.in_ok-push.ensures.items ∙ ap (λ xs. xs ++ c.args.number ∷ []) c.new-hints.ensures.items)
