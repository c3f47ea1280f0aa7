use Rattle.std.proofs.Common.{rules, ◌≡◌, ◌<◌, ◌≤◌, ◌-◌, true, false, length, get_or, sym, ◌∙◌, arith}
use Rattle.std.proofs.lemmas.List.{get_or_default}
use Rattle.witness_clauses.proofs.Marking.{lists_first, lists_more}
use Rattle.witness_clauses.proofs.ids.occurring.Goals as goal

pub loop-id-init : goal.loop-id-init
loop-id-init c =
    lists_first c.args.formulas.now c.args.form c.node.result c.push.new.self.items c.in_ok-marks.marks.items c.mark_parts.new.marks.items (search rules)
    c.node.ensures.value c.mark_parts.ensures (search rules)

pub loop-id-preserved-then-index : goal.loop-id-preserved-then-index
loop-id-preserved-then-index c =
    let few : c.loop-id.id ≤ c.args.form.0 = search rules in
    let stands : c.args.form.0 < length c.args.formulas.now = search rules in
    let some : 0 < c.loop-id.id = search rules in
    let all : length c.loop-id.marks.items ≡ length c.args.formulas.now = c.loop-id.invariant.count in
    let within : c.loop-id.id - 1 < length c.loop-id.marks.items = omega arith in
    let on : get_or c.loop-id.marks.items (c.loop-id.id - 1) false ≡ true =
    get_or_default c.loop-id.marks.items (c.loop-id.id - 1) false c.index.result.now within ∙ sym c.index.ensures ∙ c.if-index.true in
    lists_more c.args.formulas.now c.args.form c.loop-id.id c.node-then-index.result c.loop-id.ids.items c.push-then-index.new.self.items c.loop-id.marks.items
    c.mark_parts-then-index.new.marks.items some c.loop-id.invariant on c.node-then-index.ensures.value c.mark_parts-then-index.ensures (search rules)
