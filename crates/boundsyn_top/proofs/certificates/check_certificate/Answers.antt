use Rattle.std.proofs.Common.{refl, ◌∙◌}
use Rattle.std.proofs.lemmas.Result.{IfOk-weaker}
use Rattle.program_replies.specs.Statuses.{status_number}
use Rattle.program_words.specs.Settings.{check}
use Rattle.boundsyn_top.specs.Takes.{behind}
use Rattle.boundsyn_top.proofs.ReplyLemmas.{check_by_file, check_untaken, check_goes_on, not_first, whole_is, whole_of}
use Rattle.boundsyn_top.proofs.certificates.check_certificate.Goals as goal

pub returns-in-Whole-clause-output : goal.returns-in-Whole-clause-output
returns-in-Whole-clause-output g c =
    let are = rw c.in-Whole.is at c.in_ok-text.ensures.taken in
    whole_is _ c.check_by.result c.whole_output.result c.whole_output.ensures
    (IfOk-weaker c.check_by.result _ _
    (λ r by_file. whole_of _ (check c.args.spec.now c.args.certificate.now) r (check_by_file _ _ (g.H.Shelf.faults c.take_text.new.shelf) c.args.spec.now
    c.args.certificate.now c.in-Whole.text.items r.bytes.items (status_number r.status) c.take_text.ensures.files are (rw c.in-Whole.is at c.in_ok-text.ensures.unchanged)
    (rw c.deref.ensures.value at by_file)))
    c.check_by.ensures.reply)

pub returns-in-Refused-clause-output : goal.returns-in-Refused-clause-output
returns-in-Refused-clause-output g c =
    let untaken = rw c.in-Refused.is at c.in_ok-text.ensures.taken in
    whole_of _ (check c.args.spec.now c.args.certificate.now) c.in-Refused.reply (check_untaken _ c.args.spec.now c.args.certificate.now _ _ untaken)

pub returns-in-Whole-clause-other_files : goal.returns-in-Whole-clause-other_files
returns-in-Whole-clause-other_files g c = λ name foreign.
    let are = rw c.in-Whole.is at c.in_ok-text.ensures.taken in
    c.check_by.ensures.other_files name
    (λ none same. foreign (behind (same, check_goes_on _ c.args.spec.now c.args.certificate.now c.in-Whole.text.items are (rw c.deref.ensures.value at none))))
    ∙ c.take_text.ensures.others name (not_first _ (check c.args.spec.now c.args.certificate.now) c.args.spec.now name refl foreign)

pub returns-in-Refused-clause-other_files : goal.returns-in-Refused-clause-other_files
returns-in-Refused-clause-other_files g c = λ name foreign.
    c.take_text.ensures.others name (not_first _ (check c.args.spec.now c.args.certificate.now) c.args.spec.now name refl foreign)
