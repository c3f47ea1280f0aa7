use Rattle.std.proofs.Common.{◌≡◌, ◌+◌, ◌<◌, Some, None, [], ◌∷◌, ◌++◌, length, sym, arith, rules, length-append}
use Rattle.document_text.specs.Header.{front}
use Rattle.witness_text.specs.Lines.{latch_line}
use Rattle.witness_text.specs.Forms.{latch_in}
use Rattle.witness_text.specs.Statement.{values_from}
use Rattle.witness_text.specs.States.{IsLiteral}
use Rattle.witness_text.proofs.FormLemmas.{latch_form}
use Rattle.witness_text.proofs.GroupLemmas.{value_missing, value_more}
use Rattle.witness_text.proofs.statement.take_latches.Goals as goal

pub returns-in_default : goal.returns-in_default
returns-in_default c =
    let less : length c.loop-alloc.latches.items < c.args.count = search rules in
    let none : front latch_in c.loop-alloc.rest.now ≡ None = sym (rw c.in_default.is at c.in_ok-next.ensures) in
    value_missing latch_in latch_line IsLiteral latch_form c.args.count (values_from latch_in [] c.args.count c.args.bytes.now) c.loop-alloc.latches.items c.loop-alloc.rest.now c.loop-alloc.invariant.0 less none

pub loop-alloc-preserved : goal.loop-alloc-preserved
loop-alloc-preserved c =
    let less : length c.loop-alloc.latches.items < c.args.count = search rules in
    let next : front latch_in c.loop-alloc.rest.now ≡ Some (c.in-Some.next, c.in-Some.behind.now) = sym (rw c.in-Some.is at c.in_ok-next.ensures) in
    let pushed : c.push.new.self.items ≡ c.loop-alloc.latches.items ++ c.in-Some.next ∷ [] = search rules in
    let more = value_more latch_in latch_line IsLiteral latch_form c.args.count (values_from latch_in [] c.args.count c.args.bytes.now) c.loop-alloc.latches.items c.loop-alloc.rest.now c.loop-alloc.invariant.0 less
    c.in-Some.next c.in-Some.behind.now next in
    let longer = length-append c.loop-alloc.latches.items (c.in-Some.next ∷ []) in
    rw pushed (more, omega (arith, longer, less))
