use Rattle.std.proofs.lemmas.Result.{IfOk-weaker}
use Rattle.program_replies.specs.Statuses.{status_number}
use Rattle.program_words.specs.Settings.{synth}
use Rattle.boundsyn_top.proofs.ReplyLemmas.{synth_answered, synth_untaken, whole_is, whole_of}
use Rattle.boundsyn_top.proofs.synthesis.synthesize.Goals as goal

pub returns-in-Whole-clause-output : goal.returns-in-Whole-clause-output
returns-in-Whole-clause-output g c =
    let are = rw c.in-Whole.is at c.in_ok-text.ensures.taken in
    whole_is _ c.searched.result c.whole_output.result c.whole_output.ensures
    (IfOk-weaker c.searched.result _ _
    (λ r answer. whole_of _ (synth c.args.spec.now c.args.wanted c.args.kind) r (synth_answered _ c.args.spec.now c.in-Whole.text.items c.args.wanted c.args.kind
    r.bytes.items (status_number r.status) are (rw c.deref.ensures.value at answer)))
    c.searched.ensures)

pub returns-in-Refused-clause-output : goal.returns-in-Refused-clause-output
returns-in-Refused-clause-output g c =
    let untaken = rw c.in-Refused.is at c.in_ok-text.ensures.taken in
    whole_of _ (synth c.args.spec.now c.args.wanted c.args.kind) c.in-Refused.reply (synth_untaken _ c.args.spec.now c.args.wanted c.args.kind _ _ untaken)
