use Rattle.std.proofs.Common.{◌≡◌, ◌+◌, ◌<◌, Some, None, [], ◌∷◌, ◌++◌, length, sym, arith, rules, length-append}
use Rattle.document_text.specs.Header.{front}
use Rattle.witness_text.specs.Lines.{part_line}
use Rattle.witness_text.specs.Forms.{part_in}
use Rattle.witness_text.specs.Statement.{values_from}
use Rattle.witness_text.specs.States.{IsPart}
use Rattle.witness_text.proofs.FormLemmas.{part_form}
use Rattle.witness_text.proofs.GroupLemmas.{value_missing, value_more}
use Rattle.witness_text.proofs.statement.take_parts.Goals as goal

pub returns-in_default : goal.returns-in_default
returns-in_default c =
    let less : length c.loop-alloc.parts.items < c.args.count = search rules in
    let none : front part_in c.loop-alloc.rest.now ≡ None = sym (rw c.in_default.is at c.in_ok-part.ensures) in
    value_missing part_in part_line IsPart part_form c.args.count (values_from part_in [] c.args.count c.args.bytes.now) c.loop-alloc.parts.items c.loop-alloc.rest.now c.loop-alloc.invariant.0 less none

pub loop-alloc-preserved : goal.loop-alloc-preserved
loop-alloc-preserved c =
    let less : length c.loop-alloc.parts.items < c.args.count = search rules in
    let next : front part_in c.loop-alloc.rest.now ≡ Some (c.in-Some.part, c.in-Some.behind.now) = sym (rw c.in-Some.is at c.in_ok-part.ensures) in
    let pushed : c.push.new.self.items ≡ c.loop-alloc.parts.items ++ c.in-Some.part ∷ [] = search rules in
    let more = value_more part_in part_line IsPart part_form c.args.count (values_from part_in [] c.args.count c.args.bytes.now) c.loop-alloc.parts.items c.loop-alloc.rest.now c.loop-alloc.invariant.0 less
    c.in-Some.part c.in-Some.behind.now next in
    let longer = length-append c.loop-alloc.parts.items (c.in-Some.part ∷ []) in
    rw pushed (more, omega (arith, longer, less))
