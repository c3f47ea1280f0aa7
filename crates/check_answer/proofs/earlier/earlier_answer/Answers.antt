use Rattle.program_replies.specs.Statuses.{status_number}
use Rattle.check_answer.proofs.Answered.{refused_alone}
use Rattle.check_answer.proofs.earlier.earlier_answer.Goals as goal

pub returns-in-Of : goal.returns-in-Of
returns-in-Of g c = λ isnt. c.document_answer.ensures c.args.text.now (rw c.in-Of.is at c.in_ok-found.ensures) isnt

pub returns-in-Refused : goal.returns-in-Refused
returns-in-Refused g c = λ isnt.
    refused_alone c.args.text.now c.args.certificate.now c.in-Refused.reply.bytes.items (status_number c.in-Refused.reply.status)
    (rw c.in-Refused.is at c.in_ok-found.ensures) isnt
