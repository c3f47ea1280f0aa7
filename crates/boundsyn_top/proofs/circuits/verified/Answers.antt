use Rattle.std.proofs.lemmas.Result.{IfOk-weaker}
use Rattle.program_replies.specs.Statuses.{status_number}
use Rattle.boundsyn_top.specs.Unread.{count_rose}
use Rattle.boundsyn_top.proofs.ReplyLemmas.{of_bytes}
use Rattle.boundsyn_top.proofs.circuits.verified.Goals as goal

pub returns-in-Some-clause-reply : goal.returns-in-Some-clause-reply
returns-in-Some-clause-reply g c = λ taken none.
    let are = rw c.in-Some.is at c.in_ok-lines.ensures.taken in
    let same = rw c.in-Some.is at c.in_ok-lines.ensures.unchanged in
    IfOk-weaker c.verify_answer.result _ _
    (λ r answer. of_bytes _ c.args.circuit.now c.in-Some.lines.items _ _ _ r.bytes.items (status_number r.status) (same c.args.circuit.now) are
    (rw c.deref.ensures.value at answer))
    (c.verify_answer.ensures taken.is_text)

pub returns-in-None-clause-reply : goal.returns-in-None-clause-reply
returns-in-None-clause-reply g c = λ taken none.
    let rose = rw c.in-None.is at c.in_ok-lines.ensures.taken in
    IfOk-weaker c.unread_circuit.result _ _ (λ r tells. count_rose none rose tells) c.unread_circuit.ensures
