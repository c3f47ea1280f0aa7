use Rattle.std.proofs.Common.{◌≡◌, ◌-◌, ◌<◌, false, IfOk, length, replicate, set, refl, sym, ap, subst, ◌∙◌}
use Rattle.std.proofs.lemmas.List.{length-map, length-set}
use Rattle.tlsf_expand.specs.FlatText.{spec_seen}
use Rattle.program_replies.specs.Statuses.{status_number}
use Rattle.unrealizable_core.specs.declared.shrink.Standing.TheVariants.{Open}
use Rattle.unrealizable_core.specs.Laws.{is_kept, kept_in}
use Rattle.unrealizable_core.proofs.Questions.{answers_lower, weight}
use Rattle.core_answer.specs.Core.{IsToldOver, without}
use Rattle.core_answer.specs.Over.{are_all}
use Rattle.core_answer.proofs.Steps.{IsSoFar, at_start, next_step}
use Rattle.core_answer.proofs.shrinking.shrunk.Goals as goal

pub loop-number-init : goal.loop-number-init
loop-number-init g c =
    let spec = spec_seen c.args.spec.now in
    let whole = c.args.whole.items in
    subst (λ s. IsSoFar spec c.args.settings c.args.count whole s whole c.new-2.result.items) (sym c.in_ok-new.ensures)
    (subst (λ others. IsSoFar spec c.args.settings c.args.count whole (replicate c.args.count Open) whole others) (sym c.new-2.ensures.items) (at_start spec c.args.settings c.args.count whole))

pub answer_over-requires-clause-each : goal.answer_over-requires-clause-each
answer_over-requires-clause-each g c κs within =
    ap length c.deref.ensures.value ∙ length-set c.in_ok-keep.keep.items (c.in-Some.number - 1) false ∙ ap length c.in_ok-keep.ensures
    ∙ length-map c.loop-number.core.shrink is_kept ∙ c.loop-number.invariant.long ∙ c.requires.count

pub loop-number-smaller : goal.loop-number-smaller
loop-number-smaller g c =
    let s = c.loop-number.core.shrink in
    subst (λ t. weight t < weight s) (sym c.in_ok-take.ensures.shrink) (answers_lower s c.in_ok-answered.answered.defeats c.in-Some.number (sym c.in-Some.ensures.value))

pub loop-number-preserved : goal.loop-number-preserved
loop-number-preserved g c =
    let core = c.loop-number.core in
    let n = c.in-Some.number in
    let a = c.in_ok-answered.answered in
    let status = status_number a.reply.status in
    let keep_is : c.deref.result.now ≡ without n (kept_in core.shrink) = c.deref.ensures.value ∙ ap (λ keep. set keep (n - 1) false) c.in_ok-keep.ensures in
    next_step (spec_seen c.args.spec.now) c.args.settings c.args.count c.args.whole.items core.shrink core.document.items core.others.items c.loop-number.invariant
    n (sym c.in-Some.ensures.value) (c.in-Some.ensures.least n refl) a.defeats a.reply.bytes.items status
    (λ text kind here fewer.
    subst (λ keep. IsToldOver text keep kind c.args.settings a.reply.bytes.items status a.defeats) keep_is
    (subst (λ r. IfOk r (λ b. IsToldOver text c.deref.result.now kind c.args.settings b.reply.bytes.items (status_number b.reply.status) b.defeats)) c.in_ok-answered.was
    (c.answer_over.ensures text kind here (ap are_all keep_is ∙ fewer))))
    c.take.new.self.shrink c.take.new.self.document.items c.take.new.self.others.items c.in_ok-take.ensures.shrink c.in_ok-take.ensures.document c.in_ok-take.ensures.others

pub returns-clause-length : goal.returns-clause-length
returns-clause-length g c = c.loop-number.invariant.long

pub returns-clause-shrunk : goal.returns-clause-shrunk
returns-clause-shrunk g c = λ text kind t tells. c.loop-number.invariant.shown text kind t tells
