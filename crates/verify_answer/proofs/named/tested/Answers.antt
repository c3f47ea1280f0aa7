use Rattle.std.proofs.Common.{◌≡◌, None, Some, subst, sym}
use Rattle.std.proofs.lemmas.Result.{IfOk-weaker}
use Rattle.letters_and_lassos.specs.declared.kinds.Side.{Side}
use Rattle.letters_and_lassos.specs.declared.kinds.Side.TheVariants.{System, Environment}
use Rattle.program_replies.specs.declared.replies.Status.TheVariants as ended
use Rattle.program_replies.specs.Lines.{line_refusal}
use Rattle.program_replies.specs.Statuses.{status_number}
use Rattle.solve_ground.specs.declared.texts.SolveText.{SolveText}
use Rattle.circuit_check.specs.Duty.{IsReady, Owed, owed_by}
use Rattle.circuit_check.specs.Parts.{IsFoundOf}
use Rattle.verify_answer.specs.Answer.{TestAnswers, owed_to, tested_line}
use Rattle.verify_answer.specs.Reply.{IsReadyFor}
use Rattle.verify_answer.proofs.Tested.{bad_answers, shown_answers}
use Rattle.verify_answer.proofs.named.tested.Goals as goal

ready_side : (t : SolveText) (side : Side) → IsReadyFor t → IsReady (owed_to t side)
ready_side t System ready = ready.system
ready_side t Environment ready = ready.environment

pub first_bad_line-requires : goal.first_bad_line-requires
first_bad_line-requires c = subst IsReady (sym c.duty_of.ensures) (ready_side c.args.known.now c.args.side c.requires)

pub returns-in-None : goal.returns-in-None
returns-in-None c = λ text given is.
    IfOk-weaker c.verified.result (λ r. (r.bytes.items ≡ tested_line c.args.side c.args.known.now.kind c.args.known.now.semantics) × (r.status ≡ ended.Done))
    (λ r. TestAnswers c.args.side text given c.args.circuit.now c.args.known.now r.bytes.items (status_number r.status))
    (λ r told. shown_answers text given c.args.known.now is c.losing_circuits_defeat.ensures c.args.side c.args.circuit.now r.bytes.items r.status
    (subst (λ (o : Owed). IsFoundOf o c.args.circuit.now None) c.duty_of.ensures
    (subst (IsFoundOf (owed_by c.duty_of.result) c.args.circuit.now) c.in-None.is c.in_ok-first_bad_line.ensures)) told.0 told.1)
    c.verified.ensures

pub returns-in-Some : goal.returns-in-Some
returns-in-Some c = λ text given is.
    IfOk-weaker c.refused_at_line.result (λ r. (r.bytes.items ≡ line_refusal c.in-Some.line) × (r.status ≡ ended.LineRefused))
    (λ r. TestAnswers c.args.side text given c.args.circuit.now c.args.known.now r.bytes.items (status_number r.status))
    (λ r told. bad_answers text given c.args.known.now is c.args.side c.args.circuit.now r.bytes.items r.status c.in-Some.line
    (subst (λ (o : Owed). IsFoundOf o c.args.circuit.now (Some c.in-Some.line)) c.duty_of.ensures
    (subst (IsFoundOf (owed_by c.duty_of.result) c.args.circuit.now) c.in-Some.is c.in_ok-first_bad_line.ensures)) told.0 told.1)
    c.refused_at_line.ensures
