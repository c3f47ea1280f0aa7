use Rattle.std.proofs.Common.{◌≡◌, ℕ, zero, suc, ◌+◌, ◌-◌, ◌<◌, refl, sym, subst, arith, zero-add}
use Rattle.letters_and_lassos.specs.Word.{Word, HasRing, SameWord, SameFuture, lasso_len, next, after}
use Rattle.letters_and_lassos.proofs.Positions.{after_within, SameFuture-after, first_position}
use Rattle.machine_model.specs.Automaton.{AutomatonModel, HasEdge}
use Rattle.machine_model.specs.Accepts.{Path, Accepts}
use Rattle.machine_model.specs.Laws.{AcceptanceIsOfTheWord}
use Rattle.machine_model.proofs.Pigeonhole.{IsRepeated, pigeonhole}

-- a path ends as many steps on as it has edges
pub path_ends : (a : AutomatonModel) (w : Word) (n i q j r : ℕ) → Path a w n i q j r → after w i n ≡ j
path_ends a w zero i q j r path = path.0
path_ends a w (suc n) i q j r (s, edge, rest) = path_ends a w n (next w i) s j r rest

-- one path after another
pub path-append : (a : AutomatonModel) (w : Word) (n n' i q j r k s : ℕ) → Path a w n i q j r → Path a w n' j r k s → Path a w (n + n') i q k s
path-append a w zero n' i q j r k s path more =
    let there : Path a w n' i r k s = subst (λ p. Path a w n' p r k s) (sym path.0) more in
    let here : Path a w n' i q k s = subst (λ t. Path a w n' i t k s) (sym path.1) there in
    subst (λ (d : ℕ). Path a w d i q k s) (sym (zero-add n')) here
path-append a w (suc n) n' i q j r k s (t, edge, rest) more =
    let e : suc (n + n') ≡ suc n + n' = omega arith in
    subst (λ (d : ℕ). Path a w d i q k s) e (t, edge, path-append a w n n' (next w i) t j r k s rest more)

-- positions with the same future have the same paths
pub path_same : (a : AutomatonModel) (v w : Word) (n i k q j r : ℕ) → SameFuture v i w k → Path a v n i q j r → Path a w n k q (after w k n) r
path_same a v w zero i k q j r same path = (refl, path.1)
path_same a v w (suc n) i k q j r same (s, edge, rest) =
    (s, subst (λ l. HasEdge a l q s) (same.letters 0) edge, path_same a v w n (next v i) (next w k) s j r (SameFuture-after v w i k 1 same) rest)

-- a lasso's accepted path and cycle, followed on another lasso of the same word
module _ (a : AutomatonModel) (v w : Word) (ring : HasRing w) (same : SameWord v w) (accepted : Accepts a v) where
  -- the positions after so many times round the cycle
  abbrev lap : ℕ → ℕ
  lap zero = after w 0 accepted.steps
  lap (suc t) = after w (lap t) (suc accepted.further)

  lap_within : (t : ℕ) → lap t < lasso_len w
  lap_within zero = after_within w 0 accepted.steps ring (first_position w ring)
  lap_within (suc t) = after_within w (lap t) (suc accepted.further) ring (lap_within t)

  -- each of them has the future of the position of the cycle
  lap_same : (t : ℕ) → SameFuture v accepted.position w (lap t)
  lap_same zero =
      subst (λ p. SameFuture v p w (lap 0)) (path_ends a v accepted.steps 0 0 accepted.position accepted.state accepted.path)
      (SameFuture-after v w 0 0 accepted.steps (record { letters = same.letters }))
  lap_same (suc t) =
      subst (λ p. SameFuture v p w (lap (suc t))) (path_ends a v (suc accepted.further) accepted.position accepted.state accepted.position accepted.state accepted.cycle)
      (SameFuture-after v w accepted.position (lap t) (suc accepted.further) (lap_same t))

  -- paths of any length
  abbrev Leads : ℕ → ℕ → Type 0
  Leads i j = (n : ℕ) × Path a w n i accepted.state j accepted.state

  once : (t : ℕ) → Path a w (suc accepted.further) (lap t) accepted.state (lap (suc t)) accepted.state
  once t = path_same a v w (suc accepted.further) accepted.position (lap t) accepted.state accepted.position accepted.state (lap_same t) accepted.cycle

  round : (t d : ℕ) → Leads (lap t) (lap (t + d))
  round t zero = let e : t ≡ t + 0 = omega arith in subst (λ (u : ℕ). Leads (lap t) (lap u)) e (0, (refl, refl))
  round t (suc d) =
      let e : suc (t + d) ≡ t + suc d = omega arith in
      let before : Leads (lap t) (lap (t + d)) = round t d in
      subst (λ (u : ℕ). Leads (lap t) (lap u)) e
      (before.0 + suc accepted.further, path-append a w before.0 (suc accepted.further) (lap t) accepted.state (lap (t + d)) accepted.state (lap (suc (t + d))) accepted.state before.1 (once (t + d)))

  pub accepted_too : Accepts a w
  accepted_too =
      let repeated : IsRepeated lap (lasso_len w) = pigeonhole (lasso_len w) lap (λ t h. lap_within t) in
      let before : repeated.first < repeated.second = repeated.before in
      let zero_first : 0 + repeated.first ≡ repeated.first = omega arith in
      let start : Leads (lap 0) (lap repeated.first) = subst (λ (u : ℕ). Leads (lap 0) (lap u)) zero_first (round 0 repeated.first) in
      let d : ℕ = repeated.second - suc repeated.first in
      let there : suc repeated.first + d ≡ repeated.second = omega (arith, before) in
      let rest : Leads (lap (suc repeated.first)) (lap repeated.first) =
      subst (Leads (lap (suc repeated.first))) (sym repeated.same) (subst (λ (u : ℕ). Leads (lap (suc repeated.first)) (lap u)) there (round (suc repeated.first) d)) in
      let more : suc accepted.further + rest.0 ≡ suc (accepted.further + rest.0) = omega arith in
      let first : Path a w accepted.steps 0 0 (lap 0) accepted.state =
      path_same a v w accepted.steps 0 0 0 accepted.position accepted.state (record { letters = same.letters }) accepted.path in
      record {
        position = lap repeated.first;
        state = accepted.state;
        steps = accepted.steps + start.0;
        further = accepted.further + rest.0;
        path = path-append a w accepted.steps start.0 0 0 (lap 0) accepted.state (lap repeated.first) accepted.state first start.1;
        rejecting = accepted.rejecting;
        cycle = subst (λ (n : ℕ). Path a w n (lap repeated.first) accepted.state (lap repeated.first) accepted.state) more
            (path-append a w (suc accepted.further) rest.0 (lap repeated.first) accepted.state (lap (suc repeated.first)) accepted.state (lap repeated.first) accepted.state (once repeated.first) rest.1);
      }

pub acceptance_is_of_the_word : AcceptanceIsOfTheWord
acceptance_is_of_the_word a v w ring_v ring_w same accepted = accepted_too a v w ring_w same accepted
