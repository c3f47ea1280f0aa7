use Rattle.std.proofs.lemmas.Result.{IfOk-weaker}
use Rattle.program_replies.specs.Statuses.{status_number}
use Rattle.boundsyn_top.specs.Unread.{count_rose}
use Rattle.boundsyn_top.proofs.ReplyLemmas.{nothing_told, of_bytes}
use Rattle.boundsyn_top.proofs.solved_texts.told.Goals as goal

pub returns-in-Some-clause-reply : goal.returns-in-Some-clause-reply
returns-in-Some-clause-reply g c = λ text kind taken none.
    let are = rw c.in-Some.is at c.in_ok-lines.ensures.taken in
    let same = rw c.in-Some.is at c.in_ok-lines.ensures.unchanged in
    IfOk-weaker c.lasso_solve_answer.result _ _
    (λ r answer. of_bytes _ c.args.word.now c.in-Some.lines.items _ _ _ r.bytes.items (status_number r.status) (same c.args.word.now) are
    (rw c.deref.ensures.value at answer))
    (c.lasso_solve_answer.ensures text kind taken)

pub returns-in-None-clause-reply : goal.returns-in-None-clause-reply
returns-in-None-clause-reply g c = λ text kind taken none.
    let rose = rw c.in-None.is at c.in_ok-lines.ensures.taken in
    IfOk-weaker c.cannot_read.result _ _
    (λ r is. count_rose none rose (nothing_told _ r.bytes.items r.status (record { none = λ code place fault. fault }) is.0 is.1))
    c.cannot_read.ensures
