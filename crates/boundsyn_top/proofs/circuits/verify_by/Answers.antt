use Rattle.std.proofs.Common.{refl}
use Rattle.boundsyn_top.proofs.ReplyLemmas.{taken_without_fault, whatever}
use Rattle.boundsyn_top.proofs.circuits.verify_by.Goals as goal

pub returns-in-Taken-clause-reply : goal.returns-in-Taken-clause-reply
returns-in-Taken-clause-reply g c =
    let taken = rw c.in-Taken.is at c.in_ok-found.ensures in
    c.verified.ensures.reply taken (taken_without_fault c.args.text.now c.args.kind c.in-Taken.known taken)

pub returns-in-Taken-clause-other_files : goal.returns-in-Taken-clause-other_files
returns-in-Taken-clause-other_files g c = λ name differs.
    let taken = rw c.in-Taken.is at c.in_ok-found.ensures in
    c.verified.ensures.other_files name (differs (taken_without_fault c.args.text.now c.args.kind c.in-Taken.known taken))

pub returns-in-Refused-clause-reply : goal.returns-in-Refused-clause-reply
returns-in-Refused-clause-reply g c =
    let all = rw c.in-Refused.is at c.in_ok-found.ensures in
    whatever _ c.args.circuit.now _ _ _ _ _ refl all
