use Rattle.std.proofs.Common.{refl, ◌∙◌}
use Rattle.std.proofs.lemmas.Result.{IfOk-weaker}
use Rattle.program_replies.specs.Statuses.{status_number}
use Rattle.program_words.specs.Settings.{batch}
use Rattle.boundsyn_top.specs.Batch.{wished}
use Rattle.boundsyn_top.specs.Takes.{behind}
use Rattle.boundsyn_top.proofs.ReplyLemmas.{by_lines, list_unread, listed_taken, not_first, whole_is, whole_of}
use Rattle.boundsyn_top.proofs.batches.answer_list.Goals as goal

pub returns-in-Some-clause-output : goal.returns-in-Some-clause-output
returns-in-Some-clause-output g c =
    let are = rw c.in-Some.is at c.in_ok-lines.ensures.taken in
    whole_is _ c.answer_lines.result c.whole_output.result c.whole_output.ensures
    (IfOk-weaker c.answer_lines.result _ _
    (λ r replies. whole_of _ (batch c.args.list.now (wished c.args.wanted)) r (by_lines _ _ (g.H.Shelf.faults c.take_whole.new.shelf) c.args.list.now (wished c.args.wanted)
    c.in-Some.lines.items r.bytes.items (status_number r.status) c.take_whole.ensures.files are c.take_whole.ensures.never_falls
    (rw c.deref.ensures.value at replies)))
    c.answer_lines.ensures.reply)

pub returns-in-Some-clause-other_files : goal.returns-in-Some-clause-other_files
returns-in-Some-clause-other_files g c = λ name foreign.
    let are = rw c.in-Some.is at c.in_ok-lines.ensures.taken in
    c.answer_lines.ensures.other_files name
    (λ listed. let it = rw c.deref.ensures.value at listed in
    foreign (behind (listed_taken _ c.args.list.now (wished c.args.wanted) c.in-Some.lines.items name are it.0 it.1)))
    ∙ c.take_whole.ensures.others name (not_first _ (batch c.args.list.now (wished c.args.wanted)) c.args.list.now name refl foreign)

pub returns-in-None-clause-output : goal.returns-in-None-clause-output
returns-in-None-clause-output g c =
    let rose = rw c.in-None.is at c.in_ok-lines.ensures.taken in
    whole_is _ c.cannot_read.result c.whole_output-in-None.result c.whole_output-in-None.ensures
    (IfOk-weaker c.cannot_read.result _ _
    (λ r is. whole_of _ (batch c.args.list.now (wished c.args.wanted)) r (list_unread _ c.args.list.now (wished c.args.wanted) r.bytes.items r.status rose is.0 is.1))
    c.cannot_read.ensures)

pub returns-in-None-clause-other_files : goal.returns-in-None-clause-other_files
returns-in-None-clause-other_files g c = λ name foreign.
    c.take_whole.ensures.others name (not_first _ (batch c.args.list.now (wished c.args.wanted)) c.args.list.now name refl foreign)
