use Rattle.std.proofs.Common.{refl, ◌∙◌}
use Rattle.std.proofs.lemmas.Result.{IfOk-weaker}
use Rattle.program_replies.specs.Statuses.{status_number}
use Rattle.program_words.specs.Settings.{lasso}
use Rattle.boundsyn_top.specs.Takes.{behind}
use Rattle.boundsyn_top.proofs.ReplyLemmas.{lasso_by_file, lasso_untaken, lasso_goes_on, not_first, whole_is, whole_of}
use Rattle.boundsyn_top.proofs.flat.tell_truth.Goals as goal

pub returns-in-Whole-clause-output : goal.returns-in-Whole-clause-output
returns-in-Whole-clause-output g c =
    let are = rw c.in-Whole.is at c.in_ok-text.ensures.taken in
    whole_is _ c.tell_by.result c.whole_output.result c.whole_output.ensures
    (IfOk-weaker c.tell_by.result _ _
    (λ r by_file. whole_of _ (lasso c.args.spec.now c.args.word.now) r (lasso_by_file _ _ (g.H.Shelf.faults c.take_text.new.shelf) c.args.spec.now
    c.args.word.now c.in-Whole.text.items r.bytes.items (status_number r.status) c.take_text.ensures.files are (rw c.in-Whole.is at c.in_ok-text.ensures.unchanged)
    (rw c.deref.ensures.value at by_file)))
    c.tell_by.ensures.reply)

pub returns-in-Refused-clause-output : goal.returns-in-Refused-clause-output
returns-in-Refused-clause-output g c =
    let untaken = rw c.in-Refused.is at c.in_ok-text.ensures.taken in
    whole_of _ (lasso c.args.spec.now c.args.word.now) c.in-Refused.reply (lasso_untaken _ c.args.spec.now c.args.word.now _ _ untaken)

pub returns-in-Whole-clause-other_files : goal.returns-in-Whole-clause-other_files
returns-in-Whole-clause-other_files g c = λ name foreign.
    let are = rw c.in-Whole.is at c.in_ok-text.ensures.taken in
    c.tell_by.ensures.other_files name
    (λ none same. foreign (behind (same, lasso_goes_on _ c.args.spec.now c.args.word.now c.in-Whole.text.items are (rw c.deref.ensures.value at none))))
    ∙ c.take_text.ensures.others name (not_first _ (lasso c.args.spec.now c.args.word.now) c.args.spec.now name refl foreign)

pub returns-in-Refused-clause-other_files : goal.returns-in-Refused-clause-other_files
returns-in-Refused-clause-other_files g c = λ name foreign.
    c.take_text.ensures.others name (not_first _ (lasso c.args.spec.now c.args.word.now) c.args.spec.now name refl foreign)
