use Rattle.std.proofs.Common.{ap, ◌∙◌, ◌++◌}
use Rattle.truth_witness.specs.Logs.{ObligationLog}
use Rattle.witness_text.specs.Lines.{proof_part}
use Rattle.witness_text.proofs.WriteLemmas.{proof_more}
use Rattle.witness_text.proofs.write.push_logs.Goals as goal

pub loop-place-preserved : goal.loop-place-preserved
loop-place-preserved c =
    proof_more c.args.logs.now c.loop-place.place c.index-logs-place.result c.args.text.now.items c.loop-place.text.items c.push_log.new.text.items
    c.loop-place-test.true c.loop-place.invariant
    (c.in_ok-push_log.ensures ∙ ap (λ (log : ObligationLog). c.loop-place.text.items ++ proof_part c.loop-place.place log) c.index-logs-place.is)
