use Rattle.std.proofs.Common.{refl, ◌∙◌}
use Rattle.std.proofs.lemmas.Result.{IfOk-weaker}
use Rattle.program_replies.specs.Statuses.{status_number}
use Rattle.program_words.specs.Settings.{lasso_solve}
use Rattle.boundsyn_top.specs.Takes.{behind}
use Rattle.boundsyn_top.proofs.ReplyLemmas.{lasso_solve_by_file, lasso_solve_untaken, lasso_solve_goes_on, not_first, whole_is, whole_of}
use Rattle.boundsyn_top.proofs.solved_texts.tell_solved.Goals as goal

pub returns-in-Whole-clause-output : goal.returns-in-Whole-clause-output
returns-in-Whole-clause-output g c =
    let are = rw c.in-Whole.is at c.in_ok-text.ensures.taken in
    whole_is _ c.tell_by.result c.whole_output.result c.whole_output.ensures
    (IfOk-weaker c.tell_by.result _ _
    (λ r by_file. whole_of _ (lasso_solve c.args.spec.now c.args.word.now c.args.kind) r (lasso_solve_by_file _ c.args.kind _ (g.H.Shelf.faults c.take_text.new.shelf) c.args.spec.now
    c.args.word.now c.in-Whole.text.items r.bytes.items (status_number r.status) c.take_text.ensures.files are (rw c.in-Whole.is at c.in_ok-text.ensures.unchanged)
    (rw c.deref.ensures.value at by_file)))
    c.tell_by.ensures.reply)

pub returns-in-Refused-clause-output : goal.returns-in-Refused-clause-output
returns-in-Refused-clause-output g c =
    let untaken = rw c.in-Refused.is at c.in_ok-text.ensures.taken in
    whole_of _ (lasso_solve c.args.spec.now c.args.word.now c.args.kind) c.in-Refused.reply (lasso_solve_untaken _ c.args.spec.now c.args.word.now c.args.kind _ _ untaken)

pub returns-in-Whole-clause-other_files : goal.returns-in-Whole-clause-other_files
returns-in-Whole-clause-other_files g c = λ name foreign.
    let are = rw c.in-Whole.is at c.in_ok-text.ensures.taken in
    c.tell_by.ensures.other_files name
    (λ none same. foreign (behind (same, lasso_solve_goes_on c.args.kind _ c.args.spec.now c.args.word.now c.in-Whole.text.items are (rw c.deref.ensures.value at none))))
    ∙ c.take_text.ensures.others name (not_first _ (lasso_solve c.args.spec.now c.args.word.now c.args.kind) c.args.spec.now name refl foreign)

pub returns-in-Refused-clause-other_files : goal.returns-in-Refused-clause-other_files
returns-in-Refused-clause-other_files g c = λ name foreign.
    c.take_text.ensures.others name (not_first _ (lasso_solve c.args.spec.now c.args.word.now c.args.kind) c.args.spec.now name refl foreign)
