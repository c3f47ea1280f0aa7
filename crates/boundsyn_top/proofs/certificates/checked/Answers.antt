use Rattle.std.proofs.lemmas.Result.{IfOk-weaker}
use Rattle.program_replies.specs.Statuses.{status_number}
use Rattle.boundsyn_top.specs.Unread.{count_rose}
use Rattle.boundsyn_top.proofs.ReplyLemmas.{of_bytes}
use Rattle.boundsyn_top.proofs.certificates.checked.Goals as goal

pub returns-in-Some-clause-reply : goal.returns-in-Some-clause-reply
returns-in-Some-clause-reply g c = λ taken due.
    let are = rw c.in-Some.is at c.in_ok-document.ensures.taken in
    let same = rw c.in-Some.is at c.in_ok-document.ensures.unchanged in
    IfOk-weaker c.check_answer.result _ _
    (λ r answer. of_bytes _ c.args.certificate.now c.in-Some.document.items _ _ _ r.bytes.items (status_number r.status) (same c.args.certificate.now) are
    (rw c.deref.ensures.value at answer))
    (c.check_answer.ensures taken)

pub returns-in-None-clause-reply : goal.returns-in-None-clause-reply
returns-in-None-clause-reply g c = λ taken due.
    let rose = rw c.in-None.is at c.in_ok-document.ensures.taken in
    IfOk-weaker c.unread_document.result _ _ (λ r tells. count_rose due rose tells) c.unread_document.ensures
