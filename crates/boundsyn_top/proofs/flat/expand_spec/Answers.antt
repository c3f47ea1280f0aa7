use Rattle.std.proofs.lemmas.Result.{IfOk-weaker}
use Rattle.program_words.specs.Settings.{expand}
use Rattle.boundsyn_top.proofs.ReplyLemmas.{expand_answered, expand_untaken, whole_of}
use Rattle.boundsyn_top.proofs.flat.expand_spec.Goals as goal

pub returns-in-Whole-clause-output : goal.returns-in-Whole-clause-output
returns-in-Whole-clause-output g c =
    let are = rw c.in-Whole.is at c.in_ok-text.ensures.taken in
    IfOk-weaker c.flat_output.result _ _
    (λ o expansion. expand_answered _ c.args.spec.now c.in-Whole.text.items o are (rw c.deref.ensures.value at expansion))
    c.flat_output.ensures

pub returns-in-Refused-clause-output : goal.returns-in-Refused-clause-output
returns-in-Refused-clause-output g c =
    let untaken = rw c.in-Refused.is at c.in_ok-text.ensures.taken in
    whole_of _ (expand c.args.spec.now) c.in-Refused.reply (expand_untaken _ c.args.spec.now _ _ untaken)
