use Rattle.std.proofs.lemmas.Result.{IfOk-weaker}
use Rattle.program_replies.specs.Statuses.{status_number}
use Rattle.program_words.specs.Settings.{solve}
use Rattle.boundsyn_top.specs.Solving.{refutations_by}
use Rattle.boundsyn_top.proofs.ReplyLemmas.{solve_answered, solve_untaken, whole_is, whole_of}
use Rattle.boundsyn_top.proofs.solving.solve_spec.Goals as goal

pub returns-in-Whole-clause-output : goal.returns-in-Whole-clause-output
returns-in-Whole-clause-output g c =
    let are = rw c.in-Whole.is at c.in_ok-text.ensures.taken in
    whole_is _ c.solved.result c.whole_output.result c.whole_output.ensures
    (IfOk-weaker c.solved.result _ _
    (λ r answer. whole_of _ (solve c.args.spec.now c.args.kind (refutations_by c.args.refuting)) r (solve_answered _ c.args.spec.now c.in-Whole.text.items c.args.kind (refutations_by c.args.refuting)
    r.bytes.items (status_number r.status) are (rw c.deref.ensures.value at answer)))
    c.solved.ensures)

pub returns-in-Refused-clause-output : goal.returns-in-Refused-clause-output
returns-in-Refused-clause-output g c =
    let untaken = rw c.in-Refused.is at c.in_ok-text.ensures.taken in
    whole_of _ (solve c.args.spec.now c.args.kind (refutations_by c.args.refuting)) c.in-Refused.reply (solve_untaken _ c.args.spec.now c.args.kind (refutations_by c.args.refuting) _ _ untaken)
