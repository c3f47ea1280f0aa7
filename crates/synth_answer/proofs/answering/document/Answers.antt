use Rattle.std.proofs.Common.{Some, IfOk, subst}
use Rattle.tlsf_expand.specs.FlatText.{spec_seen}
use Rattle.program_replies.specs.Statuses.{status_number}
use Rattle.synth_answer.specs.Answer.{IsToldOn}
use Rattle.text_ground.specs.Ground.{ground_with}
use Rattle.synth_answer.proofs.answering.document.Goals as goal

pub returns : goal.returns
returns g c = λ truth nodes whole given.
    let ground = ground_with (spec_seen c.args.found.spec).expanded truth nodes whole in
    subst (λ r. IfOk r (λ r. IsToldOn ground c.args.settings r.reply.bytes.items (status_number r.reply.status) (Some r.verdict))) c.in_ok-written.was
    (c.document_on.ensures truth nodes whole given)
