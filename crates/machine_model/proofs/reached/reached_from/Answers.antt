use Rattle.std.proofs.Common.{◌≡◌, ◌+◌, ◌<◌, drop, length, sym, ◌∙◌, subst, arith}
use Rattle.std.proofs.lemmas.List.{take_at}
use Rattle.machine_model.specs.Automaton.{states_of}
use Rattle.machine_model.specs.Reached.{ArePassedOn}
use Rattle.machine_model.proofs.Closure.{IsClosedBelow, closed_all, closed_more, closed_start}
use Rattle.machine_model.proofs.reached.reached_from.Goals as goal

pub loop-k-init : goal.loop-k-init
loop-k-init c =
    let new = c.add_edges.new.sets in
    let old = c.in_ok-sets.sets in
    let many : length new ≡ old.len = c.add_edges.ensures.places ∙ sym c.states.ensures.value ∙ sym c.in_ok-sets.ensures.places ∙ sym old.ok.0 in
    subst (IsClosedBelow c.args.automaton.now 0) (sym (take_at new (drop (length new) old.items) old.len many))
    (closed_start c.args.automaton.now new c.states.ensures.kept c.add_edges.ensures)

pub loop-k-preserved : goal.loop-k-preserved
loop-k-preserved c =
    let a = c.args.automaton.now in
    let k = c.loop-k.k in
    let new = c.pass_on.new.sets in
    let old = c.loop-k.sets in
    let within : k < states_of a = omega arith in
    let passed : ArePassedOn k old.items new = subst (λ s. ArePassedOn k s new) c.deref_mut-in-loop-k.ensures.value c.pass_on.ensures in
    let many : length new ≡ old.len = passed.places ∙ sym old.ok.0 in
    subst (IsClosedBelow a (k + 1)) (sym (take_at new (drop (length new) old.items) old.len many))
    (closed_more a k old.items new c.states.ensures.kept within c.loop-k.invariant passed)

pub returns : goal.returns
returns c = closed_all c.args.automaton.now c.loop-k.k c.loop-k.sets.items c.states.ensures.kept (omega arith) c.loop-k.invariant
