use Rattle.std.proofs.Common.{◌≡◌, ◌+◌, ◌<◌, Some, None, [], ◌∷◌, ◌++◌, length, sym, arith, rules, length-append}
use Rattle.document_text.specs.Header.{front}
use Rattle.witness_text.specs.Lines.{gate_line}
use Rattle.witness_text.specs.Forms.{gate_in}
use Rattle.witness_text.specs.Statement.{values_from}
use Rattle.witness_text.specs.States.{AreOperands}
use Rattle.witness_text.proofs.FormLemmas.{gate_form}
use Rattle.witness_text.proofs.GroupLemmas.{value_missing, value_more}
use Rattle.witness_text.proofs.statement.take_gates.Goals as goal

pub returns-in_default : goal.returns-in_default
returns-in_default c =
    let less : length c.loop-alloc.gates.items < c.args.count = search rules in
    let none : front gate_in c.loop-alloc.rest.now ≡ None = sym (rw c.in_default.is at c.in_ok-gate.ensures) in
    value_missing gate_in gate_line AreOperands gate_form c.args.count (values_from gate_in [] c.args.count c.args.bytes.now) c.loop-alloc.gates.items c.loop-alloc.rest.now c.loop-alloc.invariant.0 less none

pub loop-alloc-preserved : goal.loop-alloc-preserved
loop-alloc-preserved c =
    let less : length c.loop-alloc.gates.items < c.args.count = search rules in
    let next : front gate_in c.loop-alloc.rest.now ≡ Some (c.in-Some.gate, c.in-Some.behind.now) = sym (rw c.in-Some.is at c.in_ok-gate.ensures) in
    let pushed : c.push.new.self.items ≡ c.loop-alloc.gates.items ++ c.in-Some.gate ∷ [] = search rules in
    let more = value_more gate_in gate_line AreOperands gate_form c.args.count (values_from gate_in [] c.args.count c.args.bytes.now) c.loop-alloc.gates.items c.loop-alloc.rest.now c.loop-alloc.invariant.0 less
    c.in-Some.gate c.in-Some.behind.now next in
    let longer = length-append c.loop-alloc.gates.items (c.in-Some.gate ∷ []) in
    rw pushed (more, omega (arith, longer, less))
