use Rattle.std.proofs.Common.{length, get_or, refl}
use Rattle.aiger_text.proofs.Gates.{settle_none, settle_more, settle_done, operand_room, room_at}
use Rattle.aiger_text.proofs.states.put_gates.Goals as goal

pub loop-place-init : goal.loop-place-init
loop-place-init c = settle_none c.args.gates.now c.args.order.now c.args.values.now c.requires.zero

pub gate_value-value-requires-clause-left : goal.gate_value-value-requires-clause-left
gate_value-value-requires-clause-left c =
    rw c.loop-place.invariant.len
    (operand_room (λ gate. gate.left) c.args.gates.now (length c.args.values.now) (get_or c.args.order.now c.loop-place.place-index 0) refl c.requires.left
    (c.requires.order.places c.loop-place.place-index 0 c.loop-place-test.true))

pub gate_value-value-requires-clause-right : goal.gate_value-value-requires-clause-right
gate_value-value-requires-clause-right c =
    rw c.loop-place.invariant.len
    (operand_room (λ gate. gate.right) c.args.gates.now (length c.args.values.now) (get_or c.args.order.now c.loop-place.place-index 0) refl c.requires.right
    (c.requires.order.places c.loop-place.place-index 0 c.loop-place-test.true))

pub bounds-values-gates : goal.bounds-values-gates
bounds-values-gates c =
    room_at c.args.gates.now c.args.order.now c.args.values.now c.loop-place.values c.loop-place.place-index c.gate_value-value.result
    c.requires.variables c.requires.order c.loop-place-test.true c.loop-place.invariant (get_or c.args.order.now c.loop-place.place-index 0)
    (c.requires.order.places c.loop-place.place-index 0 c.loop-place-test.true)

pub loop-place-preserved : goal.loop-place-preserved
loop-place-preserved c =
    settle_more c.args.gates.now c.args.order.now c.args.values.now c.loop-place.values c.loop-place.place-index c.gate_value-value.result
    c.requires.variables c.requires.order c.loop-place-test.true c.loop-place.invariant c.gate_value-value.ensures

pub returns : goal.returns
returns c = settle_done c.args.gates.now c.args.order.now c.args.values.now c.loop-place.values c.loop-place.place-index c.requires.order c.loop-place-test.false c.loop-place.invariant
