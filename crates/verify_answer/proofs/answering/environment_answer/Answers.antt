use Rattle.std.proofs.lemmas.Result.{IfOk-weaker}
use Rattle.letters_and_lassos.specs.declared.kinds.Side.TheVariants.{Environment}
use Rattle.program_replies.specs.Statuses.{status_number}
use Rattle.verify_answer.specs.Answer.{EnvironmentAnswers, TestAnswers, of_text}
use Rattle.verify_answer.proofs.answering.environment_answer.Goals as goal

pub returns : goal.returns
returns c = λ text given is.
    IfOk-weaker c.tested.result (λ r. TestAnswers Environment text given c.args.circuit.now c.args.known.now r.bytes.items (status_number r.status))
    (λ r. EnvironmentAnswers text given c.args.circuit.now r.bytes.items (status_number r.status))
    (λ r answers. of_text (record { known = c.args.known.now; is_text = is }) answers) (c.tested.ensures text given is)
