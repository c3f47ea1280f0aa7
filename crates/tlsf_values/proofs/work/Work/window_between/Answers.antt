use Rattle.std.proofs.Common.{◌∙◌, arith, rules}
use Rattle.tlsf_values.proofs.GrowLemmas.{nodes_grow}
use Rattle.tlsf_values.proofs.CountLemmas.{window_step}
use Rattle.tlsf_values.proofs.work.Work.window_between.Goals as goal

pub loop-count-preserved : goal.loop-count-preserved
loop-count-preserved c =
    (omega arith, c.loop-count.invariant.1 ∙ window_step _ _ _ c.loop-count.count c.args.last _ c.in_ok-next.next c.in_ok-joined-2.joined _ c.nexts-in-loop-count.new.self c.made.new.self (search rules) (search rules) (search rules), search (rules, nodes_grow))
