use Rattle.std.proofs.Common.{◌≡◌, ◌<◌, ◌++◌, List, length, map, subst, ◌∙◌, arith, rules}
use Rattle.ltl_formula.specs.declared.nodes.FormulaId.{FormulaId}
use Rattle.named_annotation.specs.NamedStates.{edge_of}
use Rattle.named_annotation.proofs.EdgeLemmas.{covers_at, edges_more, kept_count}
use Rattle.named_annotation.proofs.edges.all_edges.Goals as goal

pub loop-number-preserved : goal.loop-number-preserved
loop-number-preserved c =
    let named = c.args.named.now in
    let within : c.loop-number.number < length c.args.named.now.covers.items = search rules in
    let count = kept_count (λ covers. covers.items) c.args.of.now.formulas.now c.args.named.now.covers.items c.args.named.now.states.keys c.requires.covers.covers in
    edges_more c.args.of.now.formulas.now c.args.of.now.untils.items c.args.named.now.states.keys c.loop-number.edges.items c.add_edges.new.edges.items
    c.deref-in-loop-number.result.now c.counter-counter.result c.loop-number.number c.args.of.now.start (omega (arith, within, count)) c.loop-number.invariant
    (c.deref-in-loop-number.ensures.value
    ∙ covers_at (λ covers. covers.items) c.args.of.now.formulas.now c.args.named.now.covers.items c.args.named.now.states.keys c.requires.covers.covers
    c.loop-number.number c.index-covers.result.now c.args.of.now.start within c.index-covers.ensures)
    (c.counter-counter.ensures c.args.of.now.start)
    (subst (λ (untils : List FormulaId). c.add_edges.new.edges.items
    ≡ c.loop-number.edges.items ++ map (edge_of untils c.args.named.now.states.keys c.loop-number.number c.counter-counter.result) c.deref-in-loop-number.result.now)
    c.deref.ensures.value c.in_ok-add_edges.ensures)
