use Rattle.std.proofs.lemmas.Result.{IfOk-weaker}
use Rattle.letters_and_lassos.specs.declared.kinds.Side.TheVariants.{System}
use Rattle.program_replies.specs.Statuses.{status_number}
use Rattle.verify_answer.specs.Answer.{TestAnswers, VerifyAnswers, of_states}
use Rattle.verify_answer.proofs.answering.system_answer.Goals as goal

pub returns-then-names : goal.returns-then-names
returns-then-names c = λ is.
    IfOk-weaker c.tested.result (λ r. TestAnswers System c.args.text.now c.args.given c.args.circuit.now c.args.known.now r.bytes.items (status_number r.status))
    (λ r. VerifyAnswers c.args.text.now c.args.given c.args.circuit.now r.bytes.items (status_number r.status))
    (λ r answers. of_states (record { known = c.args.known.now; is_text = is }) (c.in_ok-names.ensures.0 c.if-names.true) answers)
    (c.tested.ensures c.args.text.now c.args.given is)

pub returns-else-names : goal.returns-else-names
returns-else-names c = λ is.
    c.answer_by_problems.ensures (λ names. let yes = c.in_ok-names.ensures.1 names in let no = c.if-names.false in absurd (cc))
