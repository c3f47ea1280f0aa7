use Rattle.std.proofs.lemmas.Result.{IfOk-weaker}
use Rattle.program_words.specs.Settings.{expand_solve}
use Rattle.boundsyn_top.proofs.ReplyLemmas.{expand_solve_answered, expand_solve_untaken, whole_of}
use Rattle.boundsyn_top.proofs.solved_texts.expand_solved.Goals as goal

pub returns-in-Whole-clause-output : goal.returns-in-Whole-clause-output
returns-in-Whole-clause-output g c =
    let are = rw c.in-Whole.is at c.in_ok-text.ensures.taken in
    IfOk-weaker c.solved_output.result _ _
    (λ o expansion. expand_solve_answered _ c.args.spec.now c.in-Whole.text.items c.args.kind c.args.nodes o are (rw c.deref.ensures.value at expansion))
    c.solved_output.ensures

pub returns-in-Refused-clause-output : goal.returns-in-Refused-clause-output
returns-in-Refused-clause-output g c =
    let untaken = rw c.in-Refused.is at c.in_ok-text.ensures.taken in
    whole_of _ (expand_solve c.args.spec.now c.args.kind c.args.nodes) c.in-Refused.reply (expand_solve_untaken _ c.args.spec.now c.args.kind c.args.nodes _ _ untaken)
