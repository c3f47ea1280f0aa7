use Rattle.std.proofs.Common.{Err, ap}
use Rattle.std.proofs.lemmas.Result.{IfOk-weaker}
use Rattle.program_replies.proofs.RefusalLemmas.{refused_by}
use Rattle.program_replies.specs.Statuses.{status_number}
use Rattle.solve_ground.specs.SolveText.{IsSolveFault}
use Rattle.solve_answer.specs.Answer.{SolveAnswers}
use Rattle.solve_answer.specs.Parts.{AnswersEach, limits_of}
use Rattle.solve_answer.proofs.Answered.{refused_answers}
use Rattle.solve_answer.proofs.answering.solve.Goals as goal

pub returns-in-Ok : goal.returns-in-Ok
returns-in-Ok g c = IfOk-weaker c.answer.result
    (λ s. AnswersEach c.in-Ok.known c.args.refuting s.reply)
    (λ s. SolveAnswers c.args.text.now c.args.given (limits_of c.args.refuting) s.reply.bytes.items (status_number s.reply.status))
    (λ s each. each c.args.text.now c.args.given c.in-Ok.ensures.text) c.answer.ensures

pub returns-in_ok-refusal-in-Err : goal.returns-in_ok-refusal-in-Err
returns-in_ok-refusal-in-Err g c =
    let reply = c.in_ok-refusal-in-Err.field-0 in
    refused_answers c.args.text.now c.args.given (limits_of c.args.refuting) reply.bytes.items _
    (refused_by (IsSolveFault c.args.text.now c.args.given) c.in-Err.fault reply.bytes.items reply.status
    (λ code place is. c.in-Err.ensures.fault code place (ap Err is)) c.in_ok-refusal-in-Err.ensures)
