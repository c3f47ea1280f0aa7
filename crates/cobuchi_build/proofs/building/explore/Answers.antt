use Rattle.std.proofs.Common.{◌≡◌, ◌<◌, ℕ, Bool, false, eqb, Err, Some, ap, arith, slice_get, sym, ◌∙◌}
use Rattle.std.proofs.lemmas.Bool.{eqb-false, eqb-true}
use Rattle.std.proofs.lemmas.Result.{err_from_is_err_and}
use Rattle.std.proofs.lemmas.Option.{slice_get_within}
use Rattle.obligation_sets.specs.Reduced.{covers_by}
use Rattle.cobuchi_build.proofs.Along.{along_end, along_next, along_start, leaves_fault, none_allowed, number_few, same_fault, state_counter, state_stands, too_many_leaves, too_many_met, untils_below, within_limits}
use Rattle.cobuchi_build.proofs.TableLemmas.{same_covers}
use Rattle.cobuchi_build.proofs.building.explore.Goals as goal
use Rattle.cobuchi_build.proofs.building.explore.Goals.{In-Some, After-at-covers}

-- the state of this round
at : (c : In-Some) → slice_get c.loop-state.found.states c.loop-state.number ≡ Some c.in-Some.state.now
at c = sym c.in-Some.ensures

few : (c : In-Some) → c.loop-state.number < c.args.limits.states
few c = number_few c.args.covering c.args.limits c.args.formulas.now c.requires.list c.args.f c.requires.stands c.requires.normal c.args.untils.now c.loop-state.number c.loop-state.found c.loop-state.invariant.0 c.in-Some.state.now (at c)

some_allowed : (n : ℕ) (b : Bool) → b ≡ eqb n 0 → b ≡ false → 0 < n
some_allowed n b is none = let apart : n ≡ 0 → ⊥ = eqb-false n 0 (sym is ∙ none) in omega arith

pub returns-then-allows_none-clause-too_large : goal.returns-then-allows_none-clause-too_large
returns-then-allows_none-clause-too_large c =
    λ e. none_allowed c.args.covering c.args.limits c.args.formulas.now c.args.f (eqb-true c.args.limits.states 0 (sym c.allows_none.ensures.value ∙ c.if-allows_none.true))

pub loop-state-init : goal.loop-state-init
loop-state-init c = (along_start c.args.covering c.args.limits (some_allowed c.args.limits.states c.allows_none.result c.allows_none.ensures.value c.if-allows_none.false) c.args.formulas.now c.args.untils.now c.args.f _ c.in_ok-found.ensures, c.new-table.ensures c.args.covering c.args.formulas.now)

pub place-requires-clause-stands : goal.place-requires-clause-stands
place-requires-clause-stands c =
    state_stands c.args.covering c.args.limits c.args.formulas.now c.requires.list c.args.f c.requires.stands c.requires.normal c.args.untils.now c.loop-state.number c.loop-state.found c.loop-state.invariant.0 c.in-Some.state.now
    (at (goal.at.place-requires-clause-stands c).In-Some)

pub returns-in_err-place-clause-too_large : goal.returns-in_err-place-clause-too_large
returns-in_err-place-clause-too_large c =
    let p = err_from_is_err_and c.from_residual-in_err-place.result c.from_residual-in_err-place.ensures.1 in
    λ e.
    too_many_leaves c.args.covering c.args.limits c.args.formulas.now c.requires.list c.args.f c.requires.stands c.requires.normal c.args.untils.now c.loop-state.number c.loop-state.found c.loop-state.invariant.0 c.in-Some.state.now
    (at (goal.at.returns-in_err-place-clause-too_large c).In-Some) c.requires.untils
    (c.in_err-place.ensures.too_many (ap Err (leaves_fault _ _ _ p.1 p.2 e)))

-- the covers that stand at the place are those of the set
covers_are : (c : After-at-covers) → c.at-covers.result.now ≡ covers_by c.args.covering c.args.formulas.now c.in-Some.state.now.set
covers_are c = same_covers c.place.new.self.covers c.in_ok-place.place _ _ c.at-covers.ensures c.in_ok-place.ensures.covers

pub at-covers-requires : goal.at-covers-requires
at-covers-requires c = slice_get_within _ _ _ c.in_ok-place.ensures.covers

pub overflow_cast-number : goal.overflow_cast-number
overflow_cast-number c = let h = few (goal.at.overflow_cast-number c).In-Some in omega (arith, h, c.allows_none.ensures.fits)

pub expand-requires-clause-few : goal.expand-requires-clause-few
expand-requires-clause-few c = untils_below c.args.formulas.now c.args.f c.args.untils.now c.requires.list c.requires.untils

pub expand-requires-clause-counter : goal.expand-requires-clause-counter
expand-requires-clause-counter c =
    state_counter c.args.covering c.args.limits c.args.formulas.now c.requires.list c.args.f c.requires.stands c.requires.normal c.args.untils.now c.loop-state.number c.loop-state.found c.loop-state.invariant.0 c.in-Some.state.now
    (at (goal.at.expand-requires-clause-counter c).In-Some)

pub returns-in_err-expand-clause-too_large : goal.returns-in_err-expand-clause-too_large
returns-in_err-expand-clause-too_large c =
    let p = err_from_is_err_and c.from_residual-in_err-expand.result c.from_residual-in_err-expand.ensures.1 in
    λ e.
    too_many_met c.args.covering c.args.limits c.args.formulas.now c.requires.list c.args.f c.requires.stands c.requires.normal c.args.untils.now c.loop-state.number c.loop-state.found c.loop-state.invariant.0 c.in-Some.state.now
    (at (goal.at.returns-in_err-expand-clause-too_large c).In-Some) c.requires.untils _ (covers_are (goal.at.returns-in_err-expand-clause-too_large c).After-at-covers)
    (c.in_err-expand.ensures.too_large (ap Err (same_fault _ _ _ p.1 p.2 e)))

pub overflow_add-number : goal.overflow_add-number
overflow_add-number c = let h = few (goal.at.overflow_add-number c).In-Some in omega (arith, h, c.allows_none.ensures.fits)

pub loop-state-smaller : goal.loop-state-smaller
loop-state-smaller c = let h = few (goal.at.loop-state-smaller c).In-Some in omega (arith, h)

pub loop-state-preserved : goal.loop-state-preserved
loop-state-preserved c = (
  along_next c.args.covering c.args.limits c.args.formulas.now c.requires.list c.args.f c.requires.stands c.requires.normal c.args.untils.now c.loop-state.number c.loop-state.found c.loop-state.invariant.0 c.in-Some.state.now
      (at (goal.at.loop-state-preserved c).In-Some) _ c.expand.new.self (covers_are (goal.at.loop-state-preserved c).After-at-covers) c.in_ok-place.ensures.few_leaves c.in_ok-expand.ensures.ok c.in_ok-expand.ensures.room,
  c.in_ok-place.ensures.known,
)

pub returns-clause-all : goal.returns-clause-all
returns-clause-all c =
    along_end c.args.covering c.args.limits c.args.formulas.now c.requires.list c.args.f c.requires.stands c.requires.normal c.args.untils.now c.loop-state.number c.loop-state.found c.loop-state.invariant.0 c.requires.untils (sym c.in_default.ensures)

pub returns-clause-within : goal.returns-clause-within
returns-clause-within c =
    within_limits c.args.covering c.args.limits c.args.formulas.now c.requires.list c.args.f c.requires.stands c.requires.normal c.args.untils.now c.loop-state.number c.loop-state.found c.loop-state.invariant.0 c.requires.untils (sym c.in_default.ensures)
