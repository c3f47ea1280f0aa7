use Rattle.std.proofs.Common.{ap}
use Rattle.std.proofs.lemmas.Result.{IfOk-weaker}
use Rattle.program_replies.specs.Statuses.{status_number}
use Rattle.check_answer.specs.Answer as answer
use Rattle.check_answer.proofs.solved.tested.Goals as goal

pub returns-in-Accepted : goal.returns-in-Accepted
returns-in-Accepted c = λ text given is.
    let accepted = rw c.in-Accepted.is at c.in_ok-told.ensures.means text given is in
    IfOk-weaker c.told_reply.result _ _ (λ r line. answer.told c.in-Accepted.told (ap status_number line.1) accepted line.0) c.told_reply.ensures

pub returns-in-BadLine : goal.returns-in-BadLine
returns-in-BadLine c = λ text given is.
    let first = rw c.in-BadLine.is at c.in_ok-told.ensures.checked in
    IfOk-weaker c.refused_at_line.result _ _ (λ r line. answer.line_fails c.in-BadLine.line (ap status_number line.1) first line.0) c.refused_at_line.ensures
