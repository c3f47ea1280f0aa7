use Rattle.tlsf_expand.specs.FlatText.{spec_seen}
use Rattle.text_ground.proofs.Meaning.{are_problems_for}
use Rattle.core_answer.specs.Core.{of_text, refused}
use Rattle.core_answer.proofs.Wholes.{stand_here, text_in}
use Rattle.core_answer.proofs.answering.core_answer.Goals as goal

pub text_answer-requires-clause-problems : goal.text_answer-requires-clause-problems
text_answer-requires-clause-problems g c κs within =
    let t = rw (c.in-Of.is, c.counts.ensures.value) at c.in_ok-found.ensures.text in
    are_problems_for c.args.settings.counts c.args.text.now c.args.kind (spec_seen c.in-Of.found.spec) c.in-Of.found.problems
    (rw c.in-Of.is at c.in_ok-found.ensures.meet) t.are

pub text_answer-requires-clause-stand : goal.text_answer-requires-clause-stand
text_answer-requires-clause-stand g c κs within =
    let t = rw (c.in-Of.is, c.counts.ensures.value) at c.in_ok-found.ensures.text in
    let text = c.args.text.now in
    let spec = spec_seen c.in-Of.found.spec in
    stand_here text c.args.kind spec (text_in {counts = c.args.settings.counts} text c.args.kind spec c.in-Of.found.problems t c.sections_of_texts_stand.ensures)

pub returns-in-Of : goal.returns-in-Of
returns-in-Of g c =
    let t = rw (c.in-Of.is, c.counts.ensures.value) at c.in_ok-found.ensures.text in
    c.text_answer.ensures c.args.text.now c.args.kind t

pub returns-in-Refused : goal.returns-in-Refused
returns-in-Refused g c =
    let r = rw c.in-Refused.is at c.in_ok-found.ensures.text in
    refused r.code r.place r.status_is (of_text r.code r.place r.fault) r.line
