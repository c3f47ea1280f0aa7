use Rattle.std.proofs.Common.{◌≡◌, ◌∙◌, ◌+◌, ◌≤◌, [], ◌∷◌, length, reverse, ap, arith, rules, subst, List}
use Rattle.obligation_sets.specs.declared.cover_search.Frame.{Frame}
use Rattle.obligation_sets.specs.Covers.{set_leaves}
use Rattle.obligation_sets.specs.Forks.{leaves_in}
use Rattle.obligation_sets.specs.Reduced.{covers_by}
use Rattle.obligation_sets.specs.Search.{SearchAlong, weight}
use Rattle.obligation_sets.proofs.Along.{along_end, along_top, frame_places, leaves_met, popped}
use Rattle.obligation_sets.proofs.NamedSignals.{signals_named}
use Rattle.obligation_sets.proofs.cover_search.covers.Goals as goal
use Rattle.obligation_sets.proofs.cover_search.covers.Goals.{After-drop-search-3}

pub loop-frame-init : goal.loop-frame-init
loop-frame-init c = record { along = c.in_ok-search.ensures.along c.args.covering; few = omega (arith, c.in_ok-search.ensures.none) }

pub go_on-requires-clause-places : goal.go_on-requires-clause-places
go_on-requires-clause-places c =
    frame_places c.args.covering c.args.formulas.now c.args.set.now (leaves_in c.loop-frame.search.known) c.in-Some.frame _ _ _
    (along_top c.args.covering c.args.formulas.now c.args.set.now c.loop-frame.search c.pop.new.self.items c.in-Some.frame c.in-Some.ensures.items c.loop-frame.invariant.along)

pub loop-frame-smaller : goal.loop-frame-smaller
loop-frame-smaller c =
    let falls : weight (reverse c.go_on.new.self.frames.items) + 1 ≤ weight (c.in-Some.frame ∷ reverse c.pop.new.self.items) = c.in_ok-go_on.ensures.falls in
    let same : weight (reverse c.loop-frame.search.frames.items) ≡ weight (c.in-Some.frame ∷ reverse c.pop.new.self.items) = ap weight (popped c.loop-frame.search.frames.items c.pop.new.self.items c.in-Some.frame c.in-Some.ensures.items) in
    omega arith

pub loop-frame-preserved : goal.loop-frame-preserved
loop-frame-preserved c = record {
  along = c.in_ok-go_on.ensures.along c.args.set.now
      (along_top c.args.covering c.args.formulas.now c.args.set.now c.loop-frame.search c.pop.new.self.items c.in-Some.frame c.in-Some.ensures.items c.loop-frame.invariant.along);
  few = c.if-search-gt-MAX_LEAVES.false;
}

pub returns-then-search-gt-MAX_LEAVES-clause-too_many : goal.returns-then-search-gt-MAX_LEAVES-clause-too_many
returns-then-search-gt-MAX_LEAVES-clause-too_many c = λ _.
    let along : SearchAlong c.args.covering c.args.formulas.now c.args.set.now (reverse c.go_on.new.self.frames.items) c.go_on.new.self =
    c.in_ok-go_on.ensures.along c.args.set.now
    (along_top c.args.covering c.args.formulas.now c.args.set.now c.loop-frame.search c.pop.new.self.items c.in-Some.frame c.in-Some.ensures.items c.loop-frame.invariant.along) in
    let met : c.go_on.new.self.leaves ≤ length (set_leaves c.args.formulas.now c.args.set.now) = leaves_met c.args.covering c.args.formulas.now c.args.set.now (leaves_in c.go_on.new.self.known) _ _ _ along in
    omega (arith, c.if-search-gt-MAX_LEAVES.true)

found_covers : (c : After-drop-search-3) → c.in_ok-collect.field-0.items ≡ covers_by c.args.covering c.args.formulas.now c.args.set.now
found_covers c =
    let items : c.in_ok-collect.field-0.items ≡ c.loop-frame.search.found.keys = search rules in
    let none : c.loop-frame.search.frames.items ≡ [] = search rules in
    items
    ∙ along_end c.args.covering c.args.formulas.now c.args.set.now (leaves_in c.loop-frame.search.known) c.loop-frame.search.found.keys c.loop-frame.search.leaves
    (subst (λ (frames : List Frame). SearchAlong c.args.covering c.args.formulas.now c.args.set.now (reverse frames) c.loop-frame.search) none c.loop-frame.invariant.along)

pub returns-clause-covers : goal.returns-clause-covers
returns-clause-covers c = found_covers (goal.at.returns-clause-covers c).After-drop-search-3

pub returns-clause-signals : goal.returns-clause-signals
returns-clause-signals c =
    signals_named c.args.covering c.args.formulas.now c.args.set.now c.in_ok-collect.field-0.items (found_covers (goal.at.returns-clause-signals c).After-drop-search-3)
