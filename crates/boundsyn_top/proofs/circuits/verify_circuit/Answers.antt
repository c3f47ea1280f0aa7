use Rattle.std.proofs.Common.{refl, ◌∙◌}
use Rattle.std.proofs.lemmas.Result.{IfOk-weaker}
use Rattle.program_replies.specs.Statuses.{status_number}
use Rattle.program_words.specs.Settings.{verify}
use Rattle.boundsyn_top.specs.Takes.{behind}
use Rattle.boundsyn_top.proofs.ReplyLemmas.{verify_by_file, verify_untaken, verify_goes_on, not_first, whole_is, whole_of}
use Rattle.boundsyn_top.proofs.circuits.verify_circuit.Goals as goal

pub returns-in-Whole-clause-output : goal.returns-in-Whole-clause-output
returns-in-Whole-clause-output g c =
    let are = rw c.in-Whole.is at c.in_ok-text.ensures.taken in
    whole_is _ c.verify_by.result c.whole_output.result c.whole_output.ensures
    (IfOk-weaker c.verify_by.result _ _
    (λ r by_file. whole_of _ (verify c.args.side c.args.kind c.args.spec.now c.args.circuit.now) r (verify_by_file _ c.args.side c.args.kind _ (g.H.Shelf.faults c.take_text.new.shelf) c.args.spec.now
    c.args.circuit.now c.in-Whole.text.items r.bytes.items (status_number r.status) c.take_text.ensures.files are (rw c.in-Whole.is at c.in_ok-text.ensures.unchanged)
    (rw c.deref.ensures.value at by_file)))
    c.verify_by.ensures.reply)

pub returns-in-Refused-clause-output : goal.returns-in-Refused-clause-output
returns-in-Refused-clause-output g c =
    let untaken = rw c.in-Refused.is at c.in_ok-text.ensures.taken in
    whole_of _ (verify c.args.side c.args.kind c.args.spec.now c.args.circuit.now) c.in-Refused.reply (verify_untaken _ c.args.side c.args.kind c.args.spec.now c.args.circuit.now _ _ untaken)

pub returns-in-Whole-clause-other_files : goal.returns-in-Whole-clause-other_files
returns-in-Whole-clause-other_files g c = λ name foreign.
    let are = rw c.in-Whole.is at c.in_ok-text.ensures.taken in
    c.verify_by.ensures.other_files name
    (λ none same. foreign (behind (same, verify_goes_on c.args.side c.args.kind _ c.args.spec.now c.args.circuit.now c.in-Whole.text.items are (rw c.deref.ensures.value at none))))
    ∙ c.take_text.ensures.others name (not_first _ (verify c.args.side c.args.kind c.args.spec.now c.args.circuit.now) c.args.spec.now name refl foreign)

pub returns-in-Refused-clause-other_files : goal.returns-in-Refused-clause-other_files
returns-in-Refused-clause-other_files g c = λ name foreign.
    c.take_text.ensures.others name (not_first _ (verify c.args.side c.args.kind c.args.spec.now c.args.circuit.now) c.args.spec.now name refl foreign)
