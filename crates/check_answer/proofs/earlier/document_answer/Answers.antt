use Rattle.std.proofs.Common.{rules, Err, sym, ap, subst}
use Rattle.std.proofs.lemmas.Result.{IfOk-weaker}
use Rattle.program_replies.specs.Statuses.{status_number}
use Rattle.document_text.specs.Parts.{Document}
use Rattle.document_check.specs.Shown.{AreFacts, facts_of}
use Rattle.check_answer.specs.Answer.{CheckAnswers}
use Rattle.check_answer.specs.Reply.{IsAcceptance, IsLineRefusal}
use Rattle.check_answer.proofs.Answered.{document_answers, line_answers}
use Rattle.check_answer.proofs.earlier.document_answer.Goals as goal

pub check_document-requires : goal.check_document-requires
check_document-requires g c =
    (search rules, subst AreFacts (sym c.facts_of.ensures) c.requires)

pub returns-in-Ok : goal.returns-in-Ok
returns-in-Ok g c = λ bytes taken isnt.
    IfOk-weaker c.acceptance.result
    (λ r. IsAcceptance c.document.inside.verdict c.document.inside.kind r.bytes.items r.status)
    (λ r. CheckAnswers bytes c.args.certificate.now r.bytes.items (status_number r.status))
    (λ r is. document_answers bytes c.args.certificate.now c.args.text.now
    (record { sides = c.sides_mean.ensures; sizes = c.sizes_rise.ensures; refute = c.closed_logs_refute_sizes.ensures; taken = taken; automata = c.automata_are_kept.ensures })
    (facts_of c.facts_of.result) c.facts_of.ensures c.in-Ok.document r.bytes.items r.status c.in-Ok.ensures.stated c.in-Ok.ensures.holds isnt
    (subst (λ (d : Document). IsAcceptance d.verdict d.kind r.bytes.items r.status) c.document.view_is is))
    c.acceptance.ensures

pub returns-in-Err : goal.returns-in-Err
returns-in-Err g c = λ bytes taken isnt.
    IfOk-weaker c.line_refusal.result
    (λ r. IsLineRefusal c.in-Err.fault r.bytes.items r.status)
    (λ r. CheckAnswers bytes c.args.certificate.now r.bytes.items (status_number r.status))
    (λ r is. line_answers bytes c.args.certificate.now c.args.text.now
    (record { sides = c.sides_mean.ensures; sizes = c.sizes_rise.ensures; refute = c.closed_logs_refute_sizes.ensures; taken = taken; automata = c.automata_are_kept.ensures })
    (facts_of c.facts_of.result) c.facts_of.ensures c.in-Err.fault r.bytes.items r.status (λ n same. c.in-Err.ensures.bad_line n (ap Err same)) isnt is)
    c.line_refusal.ensures
