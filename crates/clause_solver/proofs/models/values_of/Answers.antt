use Rattle.std.proofs.Common.{[], ◌∷◌, ◌++◌, ap, ◌∙◌, arith}
use Rattle.clause_solver.proofs.ModelLemmas.{one_value_more}
use Rattle.clause_solver.proofs.models.values_of.Goals as goal

pub loop-place-preserved : goal.loop-place-preserved
loop-place-preserved c =
    one_value_more c.args.trail.now.marks c.args.vars c.loop-place.place c.loop-place.values.items c.push.new.self.items c.value.result c.requires (omega arith) c.loop-place.invariant
    (c.in_ok-push.ensures.items ∙ ap (λ b. c.loop-place.values.items ++ b ∷ []) c.unwrap_or.ensures)
    c.value.ensures.some c.value.ensures.none
