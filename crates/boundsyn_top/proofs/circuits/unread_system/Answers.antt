use Rattle.std.proofs.lemmas.Result.{IfOk-weaker}
use Rattle.letters_and_lassos.specs.declared.kinds.Side.TheVariants.{System}
use Rattle.program_replies.specs.Statuses.{status_number}
use Rattle.boundsyn_top.specs.Faults.{IsSynthFault}
use Rattle.boundsyn_top.proofs.ReplyLemmas.{fault_told, nothing_told, verify_has_none}
use Rattle.boundsyn_top.proofs.circuits.unread_system.Goals as goal

pub returns-in-Of : goal.returns-in-Of
returns-in-Of c =
    let known = rw c.in-Of.is at c.in_ok-_problems.ensures in
    let none = verify_has_none c.args.text.now c.args.kind c.in-Of._problems c.problems_of_texts_are_determined.ensures known in
    IfOk-weaker c.cannot_read.result _ _ (λ r is. nothing_told (IsSynthFault System c.args.text.now c.args.kind) r.bytes.items r.status none is.0 is.1) c.cannot_read.ensures

pub returns-in-Refused : goal.returns-in-Refused
returns-in-Refused c =
    let refused = rw c.in-Refused.is at c.in_ok-_problems.ensures in
    fault_told (IsSynthFault System c.args.text.now c.args.kind) c.in-Refused.reply.bytes.items (status_number c.in-Refused.reply.status) refused
