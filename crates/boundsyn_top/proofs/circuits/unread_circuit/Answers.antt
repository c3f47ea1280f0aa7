use Rattle.std.proofs.lemmas.Result.{IfOk-weaker}
use Rattle.boundsyn_top.proofs.ReplyLemmas.{nothing_told}
use Rattle.boundsyn_top.proofs.circuits.unread_circuit.Goals as goal

pub returns-in-Environment : goal.returns-in-Environment
returns-in-Environment c =
    rw c.in-Environment.is (IfOk-weaker c.cannot_read.result _ _
    (λ r is. nothing_told _ r.bytes.items r.status (record { none = λ code place fault. fault }) is.0 is.1)
    c.cannot_read.ensures)
