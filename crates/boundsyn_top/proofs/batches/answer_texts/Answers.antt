use Rattle.std.proofs.Common.{◌≡◌, length, arith, sym, ap, ◌∙◌}
use Rattle.std.proofs.lemmas.Result.{IfOk-weaker}
use Rattle.boundsyn_top.proofs.BatchLemmas.{as_many, files_taken, if_both}
use Rattle.boundsyn_top.proofs.ReplyLemmas.{names_unread, texts_answered}
use Rattle.boundsyn_top.proofs.batches.answer_texts.Goals as goal

pub answer_taken-requires-clause-one_each : goal.answer_taken-requires-clause-one_each
answer_taken-requires-clause-one_each g c κs within =
    as_many _ c.args.names.now c.in-Some.texts.items (rw c.in-Some.is at c.in_ok-texts.ensures.taken) ∙ sym (ap length c.deref.ensures.value)

pub answer_taken-requires-clause-few : goal.answer_taken-requires-clause-few
answer_taken-requires-clause-few g c κs within =
    let same : length c.args.names.now ≡ length c.in-Some.texts.items =
    as_many _ c.args.names.now c.in-Some.texts.items (rw c.in-Some.is at c.in_ok-texts.ensures.taken) in
    let read : length c.deref.result.now ≡ length c.in-Some.texts.items = ap length c.deref.ensures.value in
    omega (arith, same, read, c.requires.few)

pub returns-in-Some-clause-reply : goal.returns-in-Some-clause-reply
returns-in-Some-clause-reply g c =
    let found = files_taken _ c.args.names.now c.in-Some.texts.items (rw c.in-Some.is at c.in_ok-texts.ensures.taken) in
    if_both c.answer_taken.result _ _ _
    (λ r answer done. texts_answered _ c.args.names.now found.files _ r.bytes.items r.status found.of_names answer done)
    (c.answer_taken.ensures.answers found.files (rw c.deref.ensures.value found.are_texts))
    c.answer_taken.ensures.done

pub returns-in-None-clause-reply : goal.returns-in-None-clause-reply
returns-in-None-clause-reply g c =
    let one = rw c.in-None.is at c.in_ok-texts.ensures.taken in
    IfOk-weaker c.cannot_read.result _ _ (λ r is. names_unread _ c.args.names.now _ r.bytes.items r.status one is.0 is.1) c.cannot_read.ensures
