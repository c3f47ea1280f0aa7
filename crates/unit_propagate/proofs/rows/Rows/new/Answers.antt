use Rattle.std.proofs.Common.{[], ◌∷◌, ◌++◌, map, ap, ◌∙◌}
use Rattle.std.proofs.lemmas.List.{map_push, replicate_more}
use Rattle.unit_propagate.proofs.rows.Rows.new.Goals as goal

pub loop-i-preserved : goal.loop-i-preserved
loop-i-preserved c =
    ap (map (λ row. row.items)) c.in_ok-push.ensures.items ∙ map_push (λ row. row.items) c.loop-i.rows.items c.new.result
    ∙ (λ i. c.loop-i.invariant i ++ c.new.ensures.items i ∷ []) ∙ replicate_more c.loop-i._i []
