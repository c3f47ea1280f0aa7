use Rattle.program_replies.specs.Statuses.{status_number}
use Rattle.check_answer.proofs.answering.text_for_check.Goals as goal

pub returns-in-Some : goal.returns-in-Some
returns-in-Some c =
    let larger = c.in-Some._larger in
    c.refused_for_check.ensures larger.bytes.items (status_number larger.status) (rw c.in-Some.is at c.in_ok-_larger.ensures)

pub returns-in-None : goal.returns-in-None
returns-in-None c = rw c.in-None.is at c.in_ok-_larger.ensures
