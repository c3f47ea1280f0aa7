use Rattle.std.proofs.Common.{◌≡◌, ◌+◌, ◌<◌, ℕ, true, false, List, length, get_or, take, sym, subst, ◌∙◌, rules}
use Rattle.std.specs.List.Sorted.{IsNonDecreasingBy}
use Rattle.std.proofs.lemmas.List.{get_or_default, take_all}
use Rattle.machine_model.specs.declared.automata.Edge.{Edge}
use Rattle.annot_check.specs.declared.pairs.Pair.{Pair}
use Rattle.annot_check.specs.Steps.{ArePlaces, HasTheEdges}
use Rattle.annot_check.specs.Valid.{KeepsRule}
use Rattle.annot_check.proofs.BrokenLemmas.{IsFoundAmong, broken_more, found_all, kept_more, place_within}
use Rattle.annot_check.proofs.EdgeLemmas.{from_sorted}
use Rattle.annot_check.proofs.product.Product.first_broken.Goals as goal
use Rattle.annot_check.proofs.product.Product.first_broken.Goals.{then-not-branch, else-not-branch}

pub offset_bounds-pairs-place : goal.offset_bounds-pairs-place
offset_bounds-pairs-place c =
    let places : ArePlaces (length c.args.pairs.now) c.deref-place-items.result.now = subst (ArePlaces (length c.args.pairs.now)) (sym c.deref-place-items.ensures.value) c.in_ok-order.ensures in
    let within : get_or c.deref-place-items.result.now c.loop-place.place-index 0 < length c.args.pairs.now =
    place_within c.args.self.now.side c.args.self.now.circuit.now c.args.self.now.automaton.now c.args.pairs.now c.deref-place-items.result.now places c.loop-place.place-index c.loop-place-test.true in
    search rules

pub bounds-pairs-place : goal.bounds-pairs-place
bounds-pairs-place c =
    let places : ArePlaces (length c.args.pairs.now) c.deref-place-items.result.now = subst (ArePlaces (length c.args.pairs.now)) (sym c.deref-place-items.ensures.value) c.in_ok-order.ensures in
    let within : get_or c.deref-place-items.result.now c.loop-place.place-index 0 < length c.args.pairs.now =
    place_within c.args.self.now.side c.args.self.now.circuit.now c.args.self.now.automaton.now c.args.pairs.now c.deref-place-items.result.now places c.loop-place.place-index c.loop-place-test.true in
    within

pub known_for-requires-clause-code : goal.known_for-requires-clause-code
known_for-requires-clause-code c =
    let places : ArePlaces (length c.args.pairs.now) c.deref-place-items.result.now = subst (ArePlaces (length c.args.pairs.now)) (sym c.deref-place-items.ensures.value) c.in_ok-order.ensures in
    let within : get_or c.deref-place-items.result.now c.loop-place.place-index 0 < length c.args.pairs.now =
    place_within c.args.self.now.side c.args.self.now.circuit.now c.args.self.now.automaton.now c.args.pairs.now c.deref-place-items.result.now places c.loop-place.place-index c.loop-place-test.true in
    subst (λ (pair : Pair). length pair.code ≡ length c.args.self.now.circuit.now.latches) (sym c.index-pairs-place.is)
    (c.requires.checked.codes (get_or c.deref-place-items.result.now c.loop-place.place-index 0) c.index-pairs-place.result within)

pub edges_from-requires : goal.edges_from-requires
edges_from-requires c = subst (IsNonDecreasingBy (λ (edge : Edge). edge.from)) (sym c.deref.ensures.value) c.in_ok-edges.ensures.sorted

pub keeps_rule-requires-clause-edges : goal.keeps_rule-requires-clause-edges
keeps_rule-requires-clause-edges c =
    from_sorted c.args.self.now.automaton.now.edges c.deref.result.now c.edges_from.result.now c.index-pairs-place.result.state
    (subst (HasTheEdges c.args.self.now.automaton.now.edges) (sym c.deref.ensures.value)
    (subst (λ (es : List Edge). HasTheEdges es c.in_ok-edges.edges.items) c.edges.ensures.value c.in_ok-edges.ensures.same)) c.edges_from.ensures

pub loop-place-preserved : goal.loop-place-preserved
loop-place-preserved c =
    let places : ArePlaces (length c.args.pairs.now) c.deref-place-items.result.now = subst (ArePlaces (length c.args.pairs.now)) (sym c.deref-place-items.ensures.value) c.in_ok-order.ensures in
    let within : get_or c.deref-place-items.result.now c.loop-place.place-index 0 < length c.args.pairs.now =
    place_within c.args.self.now.side c.args.self.now.circuit.now c.args.self.now.automaton.now c.args.pairs.now c.deref-place-items.result.now places c.loop-place.place-index c.loop-place-test.true in
    let place : ℕ = get_or c.deref-place-items.result.now c.loop-place.place-index 0 in
    record {
      fits = c.in_ok-known-2.ensures.fits;
      known = c.in_ok-known-2.ensures.reactions;
      found = elim c.if-not-branch.branch [
        | then-not-branch w ↦
            subst (IsFoundAmong c.args.self.now.side c.args.self.now.circuit.now c.args.self.now.automaton.now c.args.pairs.now (take (c.loop-place.place-index + 1) c.deref-place-items.result.now))
            (sym (w.first-is ∙ w.earlier.ensures))
            (broken_more c.args.self.now.side c.args.self.now.circuit.now c.args.self.now.automaton.now c.args.pairs.now c.deref-place-items.result.now places c.loop-place.place-index
            c.loop-place-test.true c.loop-place.first c.loop-place.invariant.found (record {
              pair = c.index-pairs-place.result;
              within = within;
              at = sym c.index-pairs-place.is;
              breaks = c.in_ok-keeps_rule.ensures.fails c.args.pairs.now c.requires.knows (let no : c.in_ok-keeps_rule.field-0 ≡ false = search rules in no);
            }))
        | else-not-branch w ↦
            subst (IsFoundAmong c.args.self.now.side c.args.self.now.circuit.now c.args.self.now.automaton.now c.args.pairs.now (take (c.loop-place.place-index + 1) c.deref-place-items.result.now))
            (sym w.first-is)
            (kept_more c.args.self.now.side c.args.self.now.circuit.now c.args.self.now.automaton.now c.args.pairs.now c.deref-place-items.result.now places c.loop-place.place-index
            c.loop-place-test.true c.loop-place.first c.loop-place.invariant.found
            (λ d. subst (KeepsRule c.args.self.now.side c.args.self.now.circuit.now c.args.self.now.automaton.now c.args.pairs.now)
            (c.index-pairs-place.is ∙ get_or_default c.args.pairs.now place c.index-pairs-place.result d within)
            (c.in_ok-keeps_rule.ensures.holds c.args.pairs.now c.requires.knows (let good : c.in_ok-keeps_rule.field-0 ≡ true = search rules in good))))
      ];
    }

pub returns : goal.returns
returns c =
    let places : ArePlaces (length c.args.pairs.now) c.deref-place-items.result.now = subst (ArePlaces (length c.args.pairs.now)) (sym c.deref-place-items.ensures.value) c.in_ok-order.ensures in
    found_all c.args.self.now.side c.args.self.now.circuit.now c.args.self.now.automaton.now c.args.pairs.now c.deref-place-items.result.now c.loop-place.first places
    (subst (λ (xs : List ℕ). IsFoundAmong c.args.self.now.side c.args.self.now.circuit.now c.args.self.now.automaton.now c.args.pairs.now xs c.loop-place.first)
    (take_all c.loop-place.place-index c.deref-place-items.result.now c.loop-place-test.false) c.loop-place.invariant.found)
