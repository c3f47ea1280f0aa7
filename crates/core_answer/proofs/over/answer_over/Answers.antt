use Rattle.std.proofs.Common.{Err, ap, subst}
use Rattle.std.proofs.lemmas.Result.{IfOk-weaker}
use Rattle.tlsf_expand.specs.FlatText.{spec_seen}
use Rattle.program_replies.specs.Statuses.{status_number}
use Rattle.core_answer.specs.Core.{IsToldOver}
use Rattle.core_answer.specs.Reply.{IsReducedReply, IsRefusedReply}
use Rattle.core_answer.proofs.Overs.{told_no_room, told_reduced}
use Rattle.core_answer.proofs.over.answer_over.Goals as goal

pub returns-in-Ok : goal.returns-in-Ok
returns-in-Ok g c = λ text kind t fewer.
    let spec = spec_seen c.args.spec.now in
    let keep = c.args.keep.now in
    let r = c.in-Ok.reduced in
    IfOk-weaker c.reduced_answer.result
    (λ a. IsReducedReply spec.expanded r c.args.settings a.reply.bytes.items a.reply.status a.defeats)
    (λ a. IsToldOver text keep kind c.args.settings a.reply.bytes.items (status_number a.reply.status) a.defeats)
    (λ a reply. told_reduced text kind spec t keep c.args.settings fewer a.reply.bytes.items r
    c.in-Ok.ensures.ok c.in-Ok.ensures.truth a.reply.status a.defeats reply)
    c.reduced_answer.ensures

pub returns-in-Err : goal.returns-in-Err
returns-in-Err g c = λ text kind t fewer.
    let spec = spec_seen c.args.spec.now in
    let keep = c.args.keep.now in
    IfOk-weaker c.refused_over.result
    (λ a. IsRefusedReply c.list_fault.result a.reply.bytes.items a.reply.status a.defeats)
    (λ a. IsToldOver text keep kind c.args.settings a.reply.bytes.items (status_number a.reply.status) a.defeats)
    (λ a reply. told_no_room text kind spec t keep c.args.settings fewer a.reply.bytes.items c.in-Err.fault
    (λ full. c.in-Err.ensures.too_many (ap Err full)) a.reply.status a.defeats
    (subst (λ fault. IsRefusedReply fault a.reply.bytes.items a.reply.status a.defeats) c.list_fault.ensures reply))
    c.refused_over.ensures
