use Rattle.verify_answer.specs.Answer.{refused, without_states}
use Rattle.verify_answer.proofs.answering.answer_by_problems.Goals as goal

pub returns-in-Of : goal.returns-in-Of
returns-in-Of c = λ unnamed.
    let taken = rw c.in-Of.is at c.in_ok-found.ensures in
    c.listed_answer.ensures c.args.text.now c.args.given taken unnamed

pub returns-in-Refused : goal.returns-in-Refused
returns-in-Refused c = λ unnamed.
    let by = rw c.in-Refused.is at c.in_ok-found.ensures in
    refused by.code by.place by.status_is by.fault (without_states unnamed) by.line
