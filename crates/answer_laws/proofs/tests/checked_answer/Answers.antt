use Rattle.std.specs.Prelude.{◌≢◌}
use Rattle.program_replies.specs.Statuses.{status_number}
use Rattle.answer_laws.proofs.tests.checked_answer.Goals as goal

pub returns : goal.returns
returns g c =
    let other : status_number c.in_ok-printed.printed.reply.status ≢ 1 = c.is_refusal.ensures c.if-is_refusal.false in
    let is = c.printed_is_accepted.ensures.by_synth c.args.text.now c.args.kind c.args.settings c.in_ok-printed.printed.reply.bytes.items
    (status_number c.in_ok-printed.printed.reply.status) c.in_ok-printed.ensures other in
    (is.checked c.in_ok-checked.field-0.bytes.items (status_number c.in_ok-checked.field-0.status) (rw c.deref.ensures.value at c.in_ok-checked.ensures)).0
