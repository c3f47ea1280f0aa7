use Rattle.std.proofs.Common.{Some, cond, sym, ◌∙◌}
use Rattle.machine_decode.proofs.Parts.{greatest_more}
use Rattle.machine_decode.proofs.decoding.greatest_from.Goals as goal

pub loop-count-preserved : goal.loop-count-preserved
loop-count-preserved c =
    c.later-greatest.ensures ∙ (λ j. cond (c.value_of.ensures j) (Some c.loop-count.count) (c.loop-count.invariant j)) ∙ sym (greatest_more c.args.values.now c.args.first c.loop-count.count)
