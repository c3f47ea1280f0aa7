use Rattle.std.proofs.Common.{Some}
use Rattle.std.proofs.lemmas.Result.{IfOk-weaker}
use Rattle.letters_and_lassos.specs.declared.kinds.Kind.TheVariants.{Mealy}
use Rattle.program_replies.specs.Statuses.{status_number}
use Rattle.spec_problems.specs.OfText.{IsFirstFault}
use Rattle.boundsyn_top.proofs.ReplyLemmas.{check_has_none, fault_told, nothing_told}
use Rattle.boundsyn_top.proofs.certificates.unread_document.Goals as goal

pub returns-in-Of : goal.returns-in-Of
returns-in-Of c =
    let known = rw c.in-Of.is at c.in_ok-_problems.ensures in
    let none = check_has_none c.args.text.now c.in-Of._problems c.problems_of_texts_are_determined.ensures known in
    IfOk-weaker c.cannot_read.result _ _ (λ r is. nothing_told (IsFirstFault c.args.text.now (Some Mealy)) r.bytes.items r.status none is.0 is.1) c.cannot_read.ensures

pub returns-in-Refused : goal.returns-in-Refused
returns-in-Refused c =
    let first = rw c.in-Refused.is at c.in_ok-_problems.ensures in
    fault_told (IsFirstFault c.args.text.now (Some Mealy)) c.in-Refused.reply.bytes.items (status_number c.in-Refused.reply.status) first
