use Rattle.std.proofs.Common.{◌≡◌, ◌<◌, ◌≤◌, true, false, IfOk, length, ap, subst}
use Rattle.std.proofs.lemmas.Result.{IfOk-weaker}
use Rattle.std.proofs.lemmas.Bool.{not-true, not-false}
use Rattle.spec_faults.specs.declared.code.SpecCode.TheVariants.{TooManyGuarantees}
use Rattle.tlsf_expand.specs.FlatText.{spec_seen}
use Rattle.program_replies.specs.declared.replies.Status.TheVariants as ended
use Rattle.program_replies.specs.Lines.{refusal_line}
use Rattle.program_replies.specs.Statuses.{status_number}
use Rattle.synth_answer.specs.Answer.{IsAnswerOn}
use Rattle.text_ground.proofs.Meaning.{truth_of_text}
use Rattle.core_answer.specs.Core.{CoreAnswers, refused}
use Rattle.core_answer.proofs.Wholes.{core_replied, core_text, given_here, own_ground, spared_text, tells_all, text_in, the_flat, too_many_here}
use Rattle.core_answer.proofs.answering.text_answer.Goals as goal

pub returns-then-count-gt-MOST_GUARANTEES : goal.returns-then-count-gt-MOST_GUARANTEES
returns-then-count-gt-MOST_GUARANTEES g c = λ text kind t.
    let spec = spec_seen c.args.found.spec in
    let more : 64 < length spec.expanded.sections.guarantee = subst (λ n. 64 < n) c.guarantee_count-count.ensures c.if-count-gt-MOST_GUARANTEES.true in
    IfOk-weaker c.too_many.result
    (λ r. (r.reply.bytes.items ≡ refusal_line TooManyGuarantees 0) × (r.reply.status ≡ ended.Refused))
    (λ r. CoreAnswers text kind c.args.settings r.reply.bytes.items (status_number r.reply.status))
    (λ r h. refused TooManyGuarantees 0 (ap status_number h.1) (too_many_here text kind spec c.args.found.problems t c.problems_of_texts_are_determined.ensures more) h.0)
    c.too_many.ensures

pub returns-then-not-whole : goal.returns-then-not-whole
returns-then-not-whole g c = λ text kind t.
    let spec = spec_seen c.args.found.spec in
    let problems = c.args.found.problems in
    let a = c.in_ok-whole.whole in
    let flat = the_flat text kind spec problems t in
    let few : length spec.expanded.sections.guarantee ≤ 64 = subst (λ n. n ≤ 64) c.guarantee_count-count.ensures c.if-count-gt-MOST_GUARANTEES.false in
    let on = subst (λ r. IfOk r (λ b. IsAnswerOn (own_ground text kind spec problems t) c.args.settings b.reply.bytes.items (status_number b.reply.status) b.defeats)) c.in_ok-whole.was
    (c.answer_on.ensures (truth_of_text t.says) flat.formulas flat.expanded.whole (given_here text kind spec problems t)) in
    let not_defeated : a.defeats ≡ false = not-true a.defeats c.if-not-whole.true in
    spared_text text kind spec problems t c.args.settings a.reply.bytes.items (status_number a.reply.status) a.defeats on few not_defeated

pub returns : goal.returns
returns g c = λ text kind t.
    let spec = spec_seen c.args.found.spec in
    let problems = c.args.found.problems in
    let a = c.in_ok-whole.whole in
    let flat = the_flat text kind spec problems t in
    let count = c.guarantee_count-count.result in
    let few : length spec.expanded.sections.guarantee ≤ 64 = subst (λ n. n ≤ 64) c.guarantee_count-count.ensures c.if-count-gt-MOST_GUARANTEES.false in
    let on = subst (λ r. IfOk r (λ b. IsAnswerOn (own_ground text kind spec problems t) c.args.settings b.reply.bytes.items (status_number b.reply.status) b.defeats)) c.in_ok-whole.was
    (c.answer_on.ensures (truth_of_text t.says) flat.formulas flat.expanded.whole (given_here text kind spec problems t)) in
    let defeated : a.defeats ≡ true = not-false a.defeats c.if-not-whole.false in
    core_replied text kind c.args.settings count c.core_of.result c.core_of.ensures.status
    (c.core_of.ensures.told text kind (text_in text kind spec problems t c.sections_of_texts_stand.ensures)
    (tells_all text kind spec problems t c.args.settings a.reply.bytes.items (status_number a.reply.status) a.defeats on defeated count))
    (λ lines told. core_text text kind spec problems t c.args.settings a.reply.bytes.items (status_number a.reply.status) a.defeats on few defeated count c.guarantee_count-count.ensures lines told)
