-- A path of named states is a path of the automaton, and comes back to a rejecting state at the same position.
use Rattle.std.proofs.Common.{◌≡◌, ℕ, zero, suc, ◌+◌, ◌-◌, ◌*◌, ◌<◌, ◌≤◌, inl, inr, false, eqb, List, Some, length, slice_get, sym, ◌∙◌, ap, subst, arith}
use Rattle.std.proofs.lemmas.Bool.{cases_eq, eq-eqb}
use Rattle.std.proofs.lemmas.List.{get_or-map}
use Rattle.std.proofs.lemmas.Option.{get_or_from_slice_get, slice_get_within}
use Rattle.std.proofs.lemmas.Nat.{same_from_place}
use Rattle.letters_and_lassos.specs.Word.{Word, HasRing, after, lasso_len, nth_letter}
use Rattle.letters_and_lassos.proofs.Positions.{after-suc, after_within, first_position}
use Rattle.ltl_formula.specs.declared.nodes.FormulaId.{FormulaId}
use Rattle.ltl_formula.specs.declared.nodes.Node.{Node}
use Rattle.obligation_sets.specs.declared.sets.Covering.{Covering}
use Rattle.machine_model.specs.Accepts.{Accepts, Path}
use Rattle.machine_model.specs.Automaton.{AutomatonModel, HasEdge}
use Rattle.machine_model.proofs.Pigeonhole.{IsRepeated, pigeonhole}
use Rattle.cobuchi_build.specs.declared.exploring.State.{State}
use Rattle.cobuchi_build.specs.Built.{automaton_from}
use Rattle.cobuchi_build.specs.Explored.{Explored}
use Rattle.cobuchi_build.specs.Occurring.{untils_of}
use Rattle.cobuchi_build.specs.Paths.{HasPath, IsStep}
use Rattle.cobuchi_build.proofs.Places.{place_below}
use Rattle.cobuchi_build.proofs.Sound.{HasCover, IsSound}

module _ (covering : Covering) (ns : List Node) (w : Word) (ring : HasRing w) (f : FormulaId) (n : ℕ) (found : Explored)
    (sound : IsSound covering ns (untils_of ns f) f n found) (closed : length found.states ≤ n) (path : HasPath covering ns f w) where
  abbrev automaton : AutomatonModel
  automaton = automaton_from (untils_of ns f) found

  -- where the state of a time stands among those that were met
  record Placed (t : ℕ) : Type 0 where
    place : ℕ
    at : slice_get found.states place ≡ Some (path.state t)

  record Onward (t : ℕ) (p : Placed t) : Type 0 where
    target : Placed (suc t)
    edge : HasEdge automaton (nth_letter w t) p.place target.place

  go : (t : ℕ) (p : Placed t) → Onward t p
  go t p =
      let step : IsStep covering ns (untils_of ns f) (nth_letter w t) (path.state t) (path.state (suc t)) = path.steps t in
      let inside : p.place < length found.states = slice_get_within found.states p.place (path.state t) p.at in
      let has : HasCover covering ns (untils_of ns f) found p.place (path.state t).counter step.cover = sound.covers p.place (path.state t) (omega arith) p.at step.cover step.is_cover in
      record {
        target = record { place = has.to; at = has.target ∙ ap Some (sym step.leads) };
        edge = record { cube = step.cover.cube; stands = has.edge; fits = step.fits };
      }

  first : Placed 0
  first = record { place = 0; at = sound.start ∙ ap Some (sym path.starts) }

  abbrev placed : (t : ℕ) → Placed t
  placed zero = first
  placed (suc t) = (go t (placed t)).target

  place_inside : (t : ℕ) → (placed t).place < length found.states
  place_inside t = slice_get_within found.states (placed t).place (path.state t) (placed t).at

  -- the path from one time to another
  along : (t u d : ℕ) → t + d ≡ u → Path automaton w d (after w 0 t) (placed t).place (after w 0 u) (placed u).place
  along t u zero e = let same : t ≡ u = omega arith in (ap (after w 0) same, ap (λ k. (placed k).place) same)
  along t u (suc d) e =
      let rest : Path automaton w d (after w 0 (suc t)) (placed (suc t)).place (after w 0 u) (placed u).place = along (suc t) u d (omega arith) in
      ((placed (suc t)).place, (go t (placed t)).edge, subst (λ (i : ℕ). Path automaton w d i (placed (suc t)).place (after w 0 u) (placed u).place) (after-suc w 0 t) rest)

  -- the times at which the counter is at the end, one after another
  abbrev time : ℕ → ℕ
  time zero = (path.ends 0).time
  time (suc k) = (path.ends (time k)).time

  ended : (k : ℕ) → (path.state (time k)).counter ≡ length (untils_of ns f)
  ended zero = (path.ends 0).ended
  ended (suc k) = (path.ends (time k)).ended

  times_rise : (k j : ℕ) → k < j → time k < time j
  times_rise k zero less = absurd (omega arith)
  times_rise k (suc j) less =
      let last : time j < time (suc j) = (path.ends (time j)).later in
      elim (cases_eq k j) [
        | inl same ↦ subst (λ (i : ℕ). time i < time (suc j)) (sym same) last
        | inr other ↦
            let apart : k ≡ j → ⊥ = other in
            let before : time k < time j = times_rise k j (omega arith) in
            omega arith
      ]

  -- at two of these times position and state are the same: a cycle
  again : IsRepeated (λ k. after w 0 (time k) * length found.states + (placed (time k)).place) (lasso_len w * length found.states)
  again =
      pigeonhole (lasso_len w * length found.states) (λ k. after w 0 (time k) * length found.states + (placed (time k)).place)
      (λ k h. place_below (after w 0 (time k)) (lasso_len w) (length found.states) (placed (time k)).place (after_within w 0 (time k) ring (first_position w ring)) (place_inside (time k)))

  pub accepted : Accepts automaton w
  unfolding first
  accepted =
      let t : ℕ = time again.first in
      let u : ℕ = time again.second in
      let same : (after w 0 t ≡ after w 0 u) × ((placed t).place ≡ (placed u).place) =
      same_from_place (after w 0 t) (placed t).place (after w 0 u) (placed u).place (length found.states) (place_inside t) (place_inside u) again.same in
      let before : t < u = times_rise again.first again.second again.before in
      let round_trip : Path automaton w (suc (u - suc t)) (after w 0 t) (placed t).place (after w 0 u) (placed u).place = along t u (suc (u - suc t)) (omega arith) in
      record {
        position = after w 0 t;
        state = (placed t).place;
        steps = t;
        further = u - suc t;
        path = along 0 t t (omega arith);
        rejecting =
            get_or-map (λ (s : State). eqb s.counter (length (untils_of ns f))) found.states (placed t).place (path.state t) false (place_inside t)
            ∙ ap (λ (s : State). eqb s.counter (length (untils_of ns f))) (get_or_from_slice_get found.states (placed t).place (path.state t) (path.state t) (placed t).at)
            ∙ eq-eqb (path.state t).counter (length (untils_of ns f)) (ended again.first);
        cycle =
            subst (λ (i : ℕ). Path automaton w (suc (u - suc t)) (after w 0 t) (placed t).place i (placed t).place) (sym same.0)
            (subst (λ (q : ℕ). Path automaton w (suc (u - suc t)) (after w 0 t) (placed t).place (after w 0 u) q) (sym same.1) round_trip);
      }
