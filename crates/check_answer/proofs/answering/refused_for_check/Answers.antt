use Rattle.program_replies.specs.Statuses.{status_number}
use Rattle.check_answer.proofs.Answered.{refused_in_any_case, taken_by_solve}
use Rattle.check_answer.proofs.answering.refused_for_check.Goals as goal

pub returns-in-Of : goal.returns-in-Of
returns-in-Of c = λ larger status too.
    taken_by_solve c.small_texts_are_taken.ensures c.problems_of_texts_are_determined.ensures c.args.text.now c.in-Of._found (rw c.in-Of.is at c.in_ok-_found.ensures)

pub returns-in-Refused : goal.returns-in-Refused
returns-in-Refused c = λ larger status too certificate.
    let first = rw c.in-Refused.is at c.in_ok-_found.ensures in
    refused_in_any_case c.args.text.now certificate c.in-Refused.reply.bytes.items larger (status_number c.in-Refused.reply.status) status first too
