use Rattle.std.proofs.Common.{refl}
use Rattle.boundsyn_top.proofs.ReplyLemmas.{solved_without_fault, whatever}
use Rattle.boundsyn_top.proofs.solved_texts.tell_by.Goals as goal

pub returns-in-Taken-clause-reply : goal.returns-in-Taken-clause-reply
returns-in-Taken-clause-reply g c =
    let taken = rw c.in-Taken.is at c.in_ok-taken.ensures.taken in
    c.told.ensures.reply c.args.text.now c.args.kind taken
    (solved_without_fault c.solve_texts_are_determined.ensures c.args.text.now c.args.kind c.in-Taken.taken taken)

pub returns-in-Taken-clause-other_files : goal.returns-in-Taken-clause-other_files
returns-in-Taken-clause-other_files g c = λ name differs.
    let taken = rw c.in-Taken.is at c.in_ok-taken.ensures.taken in
    c.told.ensures.other_files name
    (differs (solved_without_fault c.solve_texts_are_determined.ensures c.args.text.now c.args.kind c.in-Taken.taken taken))

pub returns-in-Refused-clause-reply : goal.returns-in-Refused-clause-reply
returns-in-Refused-clause-reply g c =
    let all = rw c.in-Refused.is at c.in_ok-taken.ensures.refused_to_words in
    whatever _ c.args.word.now _ _ _ _ _ refl all
