use Rattle.std.proofs.Common.{◌≡◌, None, Some, subst}
use Rattle.std.proofs.lemmas.Result.{IfOk-weaker}
use Rattle.program_replies.specs.declared.replies.Status.TheVariants as ended
use Rattle.program_replies.specs.Lines.{line_refusal}
use Rattle.program_replies.specs.Statuses.{status_number}
use Rattle.document_check.specs.Facts.{Facts}
use Rattle.document_check.specs.Shown.{facts_of}
use Rattle.verify_answer.specs.Answer.{VerifyAnswers, verified_line}
use Rattle.verify_answer.specs.Reply.{IsFoundOf}
use Rattle.verify_answer.proofs.Answered.{bad_answers, shown_answers}
use Rattle.verify_answer.proofs.listed.listed_answer.Goals as goal

pub returns-in-None : goal.returns-in-None
returns-in-None c = λ bytes given taken unnamed.
    IfOk-weaker c.verified.result (λ r. (r.bytes.items ≡ verified_line c.args.text.now.problems.system.kind) × (r.status ≡ ended.Done))
    (λ r. VerifyAnswers bytes given c.args.circuit.now r.bytes.items (status_number r.status))
    (λ r is. shown_answers bytes given c.args.text.now taken c.args.circuit.now r.bytes.items r.status unnamed
    (subst (λ (f : Facts). IsFoundOf f c.args.circuit.now None) c.facts_of.ensures
    (subst (IsFoundOf (facts_of c.facts_of.result) c.args.circuit.now) c.in-None.is c.in_ok-first_bad_line.ensures)) is.0 is.1)
    c.verified.ensures

pub returns-in-Some : goal.returns-in-Some
returns-in-Some c = λ bytes given taken unnamed.
    IfOk-weaker c.refused_at_line.result (λ r. (r.bytes.items ≡ line_refusal c.in-Some.line) × (r.status ≡ ended.LineRefused))
    (λ r. VerifyAnswers bytes given c.args.circuit.now r.bytes.items (status_number r.status))
    (λ r is. bad_answers bytes given c.args.text.now taken c.args.circuit.now r.bytes.items r.status c.in-Some.line unnamed
    (subst (λ (f : Facts). IsFoundOf f c.args.circuit.now (Some c.in-Some.line)) c.facts_of.ensures
    (subst (IsFoundOf (facts_of c.facts_of.result) c.args.circuit.now) c.in-Some.is c.in_ok-first_bad_line.ensures)) is.0 is.1)
    c.refused_at_line.ensures
