use Rattle.std.proofs.Common.{Some, IfOk, subst}
use Rattle.tlsf_expand.specs.FlatText.{spec_seen}
use Rattle.program_replies.specs.Statuses.{status_number}
use Rattle.synth_answer.specs.Answer.{IsToldOn}
use Rattle.text_ground.specs.Ground.{ground_with}
use Rattle.synth_answer.proofs.Grounds.{answered_on}
use Rattle.synth_answer.proofs.answering.answer_on.Goals as goal

pub returns : goal.returns
returns g c = λ truth nodes whole given.
    let ground = ground_with (spec_seen c.args.spec.now).expanded truth nodes whole in
    let on = subst (λ r. IfOk r (λ r. IsToldOn ground c.args.settings r.reply.bytes.items (status_number r.reply.status) (Some r.verdict))) c.in_ok-written.was
    (c.document_on.ensures truth nodes whole given) in
    rw c.verdict_defeats.ensures (answered_on ground c.args.settings _ _ c.in_ok-written.written.verdict on)
