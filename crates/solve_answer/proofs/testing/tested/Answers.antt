use Rattle.std.proofs.Common.{IfOk, rules, subst}
use Rattle.solve_check.specs.Checked.{IsAcceptedAs, IsMeantOf}
use Rattle.solve_answer.specs.Parts.{limits_of}
use Rattle.solve_answer.proofs.Answered.{accepted_answers}
use Rattle.solve_answer.proofs.testing.tested.Goals as goal

pub returns-else-not-short : goal.returns-else-not-short
returns-else-not-short c = λ text given is.
    let bytes = c.deref.result.now in
    let checked = subst (λ r. IfOk r (IsMeantOf text given bytes)) c.in_ok-accepted.was (c.check_solved.ensures.means text given is) in
    let accepted = subst (IsMeantOf text given bytes) c.in-Accepted.is checked in
    rw c.status_of.ensures (accepted_answers text given (limits_of c.args.refuting) _ c.in-Accepted.accepted
    (subst (λ b. IsAcceptedAs text given b c.in-Accepted.accepted) c.deref.ensures.value accepted) (search rules) (search rules))
