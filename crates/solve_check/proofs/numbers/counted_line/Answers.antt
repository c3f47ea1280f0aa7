use Rattle.std.proofs.Common.{◌≡◌, true, length, sym, ap, ◌∙◌, rules}
use Rattle.solve_check.specs.FirstBad.{may_be_counted, too_many}
use Rattle.solve_check.proofs.CountedLemmas.{other_number, right_number}
use Rattle.solve_check.proofs.numbers.counted_line.Goals as goal

pub returns-then-not-may_be_counted : goal.returns-then-not-may_be_counted
returns-then-not-may_be_counted c =
    let n : c.len.result ≡ length c.args.counted.circuit.now.inputs = search rules in
    too_many (ap (may_be_counted c.args.counted.states) (sym n) ∙ sym c.may_be_counted.ensures ∙ c.if-not-may_be_counted.true)

pub returns-then-right : goal.returns-then-right
returns-then-right c =
    let n : c.len.result ≡ length c.args.counted.circuit.now.inputs = search rules in
    let few : may_be_counted c.args.counted.states (length c.args.counted.circuit.now.inputs) ≡ true =
    ap (may_be_counted c.args.counted.states) (sym n) ∙ sym c.may_be_counted.ensures ∙ c.if-not-may_be_counted.false in
    right_number c.args.counted.circuit.now c.args.counted.states c.args.line few c.in_ok-right.right c.in_ok-right.ensures c.if-right.true

pub returns-else-right : goal.returns-else-right
returns-else-right c =
    let n : c.len.result ≡ length c.args.counted.circuit.now.inputs = search rules in
    let few : may_be_counted c.args.counted.states (length c.args.counted.circuit.now.inputs) ≡ true =
    ap (may_be_counted c.args.counted.states) (sym n) ∙ sym c.may_be_counted.ensures ∙ c.if-not-may_be_counted.false in
    other_number c.args.counted.circuit.now c.args.counted.states c.args.line few c.in_ok-right.right c.in_ok-right.ensures c.if-right.false
