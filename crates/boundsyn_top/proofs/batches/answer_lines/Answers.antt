use Rattle.std.proofs.Common.{Err, ap}
use Rattle.std.proofs.lemmas.Result.{IfOk-weaker}
use Rattle.program_replies.specs.Statuses.{status_number}
use Rattle.boundsyn_top.proofs.ReplyLemmas.{by_names, list_refused}
use Rattle.boundsyn_top.proofs.batches.answer_lines.Goals as goal

pub returns-in-Ok-clause-reply : goal.returns-in-Ok-clause-reply
returns-in-Ok-clause-reply g c =
    IfOk-weaker c.answer_texts.result _ _
    (λ r replies. by_names _ c.lists_are_determined.ensures c.args.lines.now c.in-Ok.names.items _ r.bytes.items (status_number r.status)
    c.in-Ok.ensures.list (rw c.deref.ensures.value at replies))
    c.answer_texts.ensures.reply

pub returns-in-Ok-clause-other_files : goal.returns-in-Ok-clause-other_files
returns-in-Ok-clause-other_files g c = λ name foreign.
    let law = c.lists_are_determined.ensures in
    c.answer_texts.ensures.other_files name
    (λ among. foreign (
      record { names = c.in-Ok.names.items; is_list = c.in-Ok.ensures.list; among = rw c.deref.ensures.value at among },
      λ bad. law.apart c.args.lines.now c.in-Ok.names.items bad.line c.in-Ok.ensures.list bad.bad,
    ))

pub returns-in-Err-clause-reply : goal.returns-in-Err-clause-reply
returns-in-Err-clause-reply g c =
    IfOk-weaker c.list_refusal.result _ _
    (λ r is. list_refused _ c.args.lines.now _ c.in-Err.fault r.bytes.items r.status (λ n same. c.in-Err.ensures.bad n (ap Err same)) is)
    c.list_refusal.ensures
