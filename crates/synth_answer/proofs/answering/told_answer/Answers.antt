use Rattle.std.proofs.Common.{refl}
use Rattle.spec_problems.specs.OfText.{IsFirstFault}
use Rattle.std.proofs.lemmas.Result.{IfOk-weaker}
use Rattle.tlsf_expand.specs.FlatText.{spec_seen}
use Rattle.program_replies.specs.Statuses.{status_number}
use Rattle.synth_answer.specs.Answer.{IsTold, IsToldOn}
use Rattle.synth_answer.specs.Answer as answer
use Rattle.text_ground.specs.Ground.{IsGroundOf}
use Rattle.synth_answer.proofs.Grounds.{told_for}
use Rattle.text_ground.proofs.Meaning.{are_problems_for, given_on, ground_by_its_kind, is_ground, text_ground, truth_of_text}
use Rattle.synth_answer.proofs.answering.told_answer.Goals as goal

pub document-requires-clause-problems : goal.document-requires-clause-problems
document-requires-clause-problems g c κs within =
    let t = rw (c.in-Of.is, c.counts.ensures.value) at c.in_ok-found.ensures.text in
    are_problems_for c.args.settings.counts c.args.text.now c.args.kind (spec_seen c.in-Of.found.spec) c.in-Of.found.problems
    (rw c.in-Of.is at c.in_ok-found.ensures.meet) t.are

pub returns-in-Of : goal.returns-in-Of
returns-in-Of g c =
    let t = rw (c.in-Of.is, c.counts.ensures.value) at c.in_ok-found.ensures.text in
    let are = t.are in
    let text = c.args.text.now in
    let kind = c.args.kind in
    let spec = spec_seen c.in-Of.found.spec in
    let problems = c.in-Of.found.problems in
    let ground = text_ground spec are.flat t.says in
    IfOk-weaker c.document.result
    (λ t. IsToldOn ground c.args.settings t.reply.bytes.items (status_number t.reply.status) t.verdict)
    (λ t. IsTold text kind c.args.settings t.reply.bytes.items (status_number t.reply.status) t.verdict)
    (λ r document. told_for (IsFirstFault text kind) (IsGroundOf text) kind c.args.settings ground
    (is_ground c.args.settings.counts text kind spec problems t.says are) (ground_by_its_kind c.args.settings.counts text kind spec problems t.says are)
    r.reply.bytes.items (status_number r.reply.status) r.verdict document)
    (c.document.ensures (truth_of_text t.says) are.flat.formulas are.flat.expanded.whole
    (given_on c.args.settings.counts text kind spec problems t.says are t.accept))

pub returns-in-Refused : goal.returns-in-Refused
returns-in-Refused g c =
    let r = rw c.in-Refused.is at c.in_ok-found.ensures.text in
    record { answers = answer.refused r.code r.place r.status_is r.fault r.line; told = refl }
