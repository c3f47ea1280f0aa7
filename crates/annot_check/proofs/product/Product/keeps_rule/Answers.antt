use Rattle.std.proofs.Common.{◌≡◌, ◌≤◌, ◌<◌, true, false, List, length, get_or, refl, ap, subst, ◌∙◌, arith, rules}
use Rattle.machine_model.specs.Automaton.{states_of}
use Rattle.annot_check.specs.declared.steps.Reaction.{Reaction}
use Rattle.annot_check.specs.Steps.{IsReaction}
use Rattle.annot_check.proofs.EdgeLemmas.{joined_from, leads_more, leads_none, tells_no, tells_yes}
use Rattle.annot_check.proofs.StepLemmas.{reaction_at}
use Rattle.annot_check.proofs.product.Product.keeps_rule.Goals as goal

pub loop-step-init : goal.loop-step-init
loop-step-init c = leads_none _ _ _ _ _

pub all_lead-requires : goal.all_lead-requires
all_lead-requires c =
    joined_from (states_of c.args.self.now.automaton.now) c.args.self.now.automaton.now.edges c.args.edges.now c.args.pair.now.state c.states-states.ensures.kept.edges c.requires.edges

pub returns-then-not-branch : goal.returns-then-not-branch
returns-then-not-branch c =
    let same : c.deref-step-items.result.now ≡ c.args.known.now.steps.items = c.deref-step-items.ensures.value in
    let reaction : IsReaction c.args.self.now.side c.args.self.now.circuit.now c.args.pair.now.code c.loop-step.step-index c.step-item.result.letter c.step-item.result.next =
    reaction_at c.args.self.now.side c.args.self.now.circuit.now c.args.known.now c.requires.known c.args.pair.now.code c.requires.code c.loop-step.step-index c.step-item.result
    (subst (λ (xs : List Reaction). c.loop-step.step-index < length xs) same c.loop-step-test.true)
    (c.step-item.is ∙ ap (λ (xs : List Reaction). get_or xs c.loop-step.step-index c.step-item.result) same) in
    tells_no c.args.self.now.side c.args.self.now.circuit.now c.args.self.now.automaton.now c.args.self.now.numbers.now c.args.pair.now c.args.edges.now c.requires.edges
    c.loop-step.step-index c.step-item.result.letter c.step-item.result.next c.step-item.result.next refl reaction
    (c.in_ok-all_lead.ensures.one (let no : c.in_ok-all_lead.field-0 ≡ false = search rules in no))

pub loop-step-preserved : goal.loop-step-preserved
loop-step-preserved c =
    let same : c.deref-step-items.result.now ≡ c.args.known.now.steps.items = c.deref-step-items.ensures.value in
    let reaction : IsReaction c.args.self.now.side c.args.self.now.circuit.now c.args.pair.now.code c.loop-step.step-index c.step-item.result.letter c.step-item.result.next =
    reaction_at c.args.self.now.side c.args.self.now.circuit.now c.args.known.now c.requires.known c.args.pair.now.code c.requires.code c.loop-step.step-index c.step-item.result
    (subst (λ (xs : List Reaction). c.loop-step.step-index < length xs) same c.loop-step-test.true)
    (c.step-item.is ∙ ap (λ (xs : List Reaction). get_or xs c.loop-step.step-index c.step-item.result) same) in
    leads_more c.args.self.now.side c.args.self.now.circuit.now c.args.self.now.automaton.now c.args.self.now.numbers.now c.args.pair.now c.args.edges.now c.requires.edges
    c.loop-step.step-index c.step-item.result.letter c.step-item.result.next c.step-item.result.next refl c.loop-step.invariant reaction
    (c.in_ok-all_lead.ensures.all (let good : c.in_ok-all_lead.field-0 ≡ true = search rules in good))

pub returns : goal.returns
returns c =
    let same : c.deref-step-items.result.now ≡ c.args.known.now.steps.items = c.deref-step-items.ensures.value in
    let end : length c.args.known.now.steps.items ≤ c.loop-step.step-index = subst (λ (xs : List Reaction). length xs ≤ c.loop-step.step-index) same c.loop-step-test.false in
    let most : c.loop-step.step-index ≤ length c.deref-step-items.result.now = search rules in
    let inside : c.loop-step.step-index ≤ length c.args.known.now.steps.items = subst (λ (xs : List Reaction). c.loop-step.step-index ≤ length xs) same most in
    tells_yes c.args.self.now.side c.args.self.now.circuit.now c.args.self.now.automaton.now c.args.self.now.numbers.now c.args.pair.now c.args.edges.now c.requires.edges
    c.loop-step.step-index ((let whole : c.loop-step.step-index ≡ length c.args.known.now.steps.items = omega (arith, end, inside) in whole) ∙ c.requires.known.count)
    c.loop-step.invariant
