use Rattle.std.proofs.lemmas.Result.{IfOk-weaker}
use Rattle.program_replies.specs.Statuses.{status_number}
use Rattle.program_words.specs.Settings.{core}
use Rattle.boundsyn_top.proofs.ReplyLemmas.{core_answered, core_untaken, whole_is, whole_of}
use Rattle.boundsyn_top.proofs.cores.find_core.Goals as goal

pub returns-in-Whole-clause-output : goal.returns-in-Whole-clause-output
returns-in-Whole-clause-output g c =
    let are = rw c.in-Whole.is at c.in_ok-text.ensures.taken in
    whole_is _ c.shrunk.result c.whole_output.result c.whole_output.ensures
    (IfOk-weaker c.shrunk.result _ _
    (λ r answer. whole_of _ (core c.args.spec.now c.args.wanted c.args.kind) r (core_answered _ c.args.spec.now c.in-Whole.text.items c.args.wanted c.args.kind
    r.bytes.items (status_number r.status) are (rw c.deref.ensures.value at answer)))
    c.shrunk.ensures)

pub returns-in-Refused-clause-output : goal.returns-in-Refused-clause-output
returns-in-Refused-clause-output g c =
    let untaken = rw c.in-Refused.is at c.in_ok-text.ensures.taken in
    whole_of _ (core c.args.spec.now c.args.wanted c.args.kind) c.in-Refused.reply (core_untaken _ c.args.spec.now c.args.wanted c.args.kind _ _ untaken)
