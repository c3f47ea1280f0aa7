use Rattle.std.proofs.Common.{subst, sym}
use Rattle.std.specs.Prelude.{IfOk}
use Rattle.letters_and_lassos.specs.declared.kinds.Side.{Side}
use Rattle.program_replies.specs.Statuses.{status_number}
use Rattle.verify_answer.specs.Answer.{CircuitAnswers}
use Rattle.verify_answer.proofs.answering.verify_answer.Goals as goal

pub returns-in-Environment : goal.returns-in-Environment
returns-in-Environment c = λ is.
    subst (λ (s : Side). IfOk c.environment_answer.result (λ r. CircuitAnswers s c.args.text.now c.args.given c.args.circuit.now r.bytes.items (status_number r.status)))
    (sym c.in-Environment.is) (c.environment_answer.ensures c.args.text.now c.args.given is)
