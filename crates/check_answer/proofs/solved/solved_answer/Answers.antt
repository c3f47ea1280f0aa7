use Rattle.std.proofs.Common.{ap, Err}
use Rattle.std.proofs.lemmas.Result.{IfOk-weaker}
use Rattle.program_replies.specs.Statuses.{status_number}
use Rattle.check_answer.proofs.Answered.{asked_fault, asked_is, is_ready, solved_answers}
use Rattle.check_answer.proofs.solved.solved_answer.Goals as goal

pub tested-requires : goal.tested-requires
tested-requires c =
    let asked = c.in-Ok.ensures.asked in
    is_ready c.args.text.now asked.given c.in-Ok.known (asked_is c.args.text.now c.in_ok-header.header asked.given c.in-Ok.known asked.asked)

pub returns-in-Ok : goal.returns-in-Ok
returns-in-Ok c = λ taken sixth.
    let asked = c.in-Ok.ensures.asked in
    IfOk-weaker c.tested.result _ _
    (λ r is. solved_answers c.args.text.now c.args.certificate.now c.in_ok-header.header c.in-Ok.known r.bytes.items (status_number r.status) sixth taken
    c.in_ok-header.ensures asked is)
    (c.tested.ensures c.args.text.now asked.given (asked_is c.args.text.now c.in_ok-header.header asked.given c.in-Ok.known asked.asked))

pub returns-in-Err : goal.returns-in-Err
returns-in-Err c = λ taken sixth.
    IfOk-weaker c.refusal.result _ _
    (λ r is. asked_fault c.solve_texts_are_determined.ensures c.args.text.now c.args.certificate.now r.bytes.items c.in_ok-header.header c.in-Err.fault r.status taken
    (λ code place same. c.in-Err.ensures.fault code place (ap Err same)) is)
    c.refusal.ensures
