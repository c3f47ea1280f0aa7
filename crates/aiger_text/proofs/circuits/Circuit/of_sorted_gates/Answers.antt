use Rattle.std.proofs.Common.{◌≡◌, length, arith}
use Rattle.aiger_text.specs.CircuitType.{ArePlaces}
use Rattle.aiger_text.proofs.Orders.{order_of_sorted}
use Rattle.aiger_text.proofs.circuits.Circuit.of_sorted_gates.Goals as goal

pub invariant_of-result : goal.invariant_of-result
invariant_of-result c =
    let count : c.len.result ≡ length c.args.gates.items = omega (arith, c.len.ensures, c.args.gates.ok.0) in
    let places : ArePlaces (length c.args.gates.items) c.in_ok-order.order.items = rw count at c.in_ok-order.ensures in
    (c.requires.circuit, order_of_sorted c.args.gates.items c.in_ok-order.order.items c.requires.sorted places)
