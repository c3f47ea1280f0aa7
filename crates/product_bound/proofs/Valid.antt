-- Along a run of a machine with a valid annotation each pair has a number, and along a cycle, which stays in a component,
-- numbers never fall, and rise at each edge into a rejecting state.
use Rattle.std.proofs.Common.{◌≡◌, ℕ, zero, suc, ◌+◌, ◌<◌, ◌≤◌, List, length, sym, ap, ◌∙◌, subst, arith, Option, Some, cond, false, slice_index}
use Rattle.letters_and_lassos.specs.Word.{Word, lasso_len, next, letter_at}
use Rattle.letters_and_lassos.proofs.Positions.{next_within, next-inner}
use Rattle.machine_model.specs.Accepts.{Accepts, Path}
use Rattle.machine_model.specs.Automaton.{HasEdge, IsAutomaton, states_of}
use Rattle.machine_model.specs.Course.{letter_of}
use Rattle.machine_model.specs.Machine.{MachineModel, IsMachine, next_of, size_of, writes_of}
use Rattle.machine_model.specs.Problem.{IsMachineOf, automaton_of}
use Rattle.machine_model.specs.Run.{IsRunLasso, joined_letter, read_part}
use Rattle.machine_model.specs.declared.problems.Problem.{Problem}
use Rattle.machine_model.specs.Components.{JoinedIsReached, Reaches}
use Rattle.product_bound.specs.Annotation.{HasNumber, IsValidAnnotation, leaves, number_after, number_at, rise_at}
use Rattle.machine_model.proofs.Readings.{joined-parts}
use Rattle.product_bound.proofs.Counted.{after_stays, stays_joined}
use Rattle.product_bound.proofs.Letters.{to_within}
use Rattle.product_bound.proofs.Reaching.{edge_reaches, path_reaches, reaches_on, reaches_self}

-- a run's states are the machine's
pub states_within : (p : Problem) (m : MachineModel) (w : Word) (states : List ℕ) → IsMachine m → IsRunLasso m p.side w states
    → 0 < size_of m → (i : ℕ) → i < lasso_len w → slice_index states i < size_of m
states_within p m w states machine run some zero h = rw run.start some
states_within p m w states machine run some (suc i) h =
    let before : i < lasso_len w = omega arith in
    let inner : next w i ≡ i + 1 = next-inner w i (λ e. omega arith) in
    let here : slice_index states (next w i) ≡ next_of m (slice_index states i) (read_part p.side m (letter_at w i)) = run.moves i before in
    let within : next_of m (slice_index states i) (read_part p.side m (letter_at w i)) < size_of m = machine.nexts (slice_index states i) (read_part p.side m (letter_at w i)) (states_within p m w states machine run some i before) (run.reads i before) in
    let e : suc i ≡ next w i = omega (arith, inner) in
    rw (e, here) within

-- a pair of a position and an automaton's state has a number of at least `least`
record HasLeast (p : Problem) (numbers : List (Option ℕ)) (w : Word) (states : List ℕ) (i q least : ℕ) : Type 0 where
  position : i < lasso_len w
  state : q < states_of (automaton_of p)
  has : HasNumber p numbers (slice_index states i) q least

module _ (p : Problem) (m : MachineModel) (numbers : List (Option ℕ)) (w : Word) (states : List ℕ) (reached_is : JoinedIsReached) (made : IsAutomaton (automaton_of p)) (machine : IsMachine m) (fits : IsMachineOf p m) (some : 0 < size_of m) (valid : IsValidAnnotation p m numbers) (run : IsRunLasso m p.side w states) where
  letter_is : (i : ℕ) → i < lasso_len w → letter_of p.side m (slice_index states i) (read_part p.side m (letter_at w i)) ≡ letter_at w i
  letter_is i h =
      let e : joined_letter p.side m (read_part p.side m (letter_at w i)) (writes_of m (slice_index states i) (read_part p.side m (letter_at w i))) ≡ (letter_at w i).0
      = rw (sym (run.writes i h)) (joined-parts p.side m (letter_at w i)) in
      λ j. record { 0 = e j }

  -- behind an edge the number is as the edge wants it
  over_edge : (i q r c least : ℕ) → HasLeast p numbers w states i q c → HasEdge (automaton_of p) (letter_at w i) q r
      → ((d : ℕ) → c ≤ d → least ≤ number_after p q r d) → HasLeast p numbers w states (next w i) r least
  over_edge i q r c least at edge wanted =
      let s : ℕ = slice_index states i in
      let read : ℕ = read_part p.side m (letter_at w i) in
      let small : s < p.size = rw (sym fits.size) (states_within p m w states machine run some i at.position) in
      let edge' : HasEdge (automaton_of p) (letter_of p.side m s read) q r = subst (λ l. HasEdge (automaton_of p) l q r) (sym (letter_is i at.position)) edge in
      let after : HasNumber p numbers (next_of m s read) r (number_after p q r at.has.number)
      = valid.edges s q at.has.number read r small at.state at.has.stands (run.reads i at.position) edge' in
      let enough : least ≤ number_after p q r at.has.number = wanted at.has.number at.has.enough in
      let enough' : number_after p q r at.has.number ≤ after.number = after.enough in
      let moved : slice_index states (next w i) ≡ next_of m s read = run.moves i at.position in
      record {
        position = next_within w i run.ring at.position;
        state = to_within (automaton_of p) (letter_at w i) q r made edge;
        has = record {
          number = after.number;
          stands = subst (λ t. number_at p numbers t r ≡ Some after.number) (sym moved) after.stands;
          enough = omega (arith, enough, enough');
        };
      }

  -- where its end leads back to its start, it is at least so much more
  rises : (i q r least : ℕ) → HasLeast p numbers w states i q least → HasEdge (automaton_of p) (letter_at w i) q r → Reaches (automaton_of p) r q
      → HasLeast p numbers w states (next w i) r (least + rise_at (automaton_of p) r)
  rises i q r least at edge back =
      let hr : r < states_of (automaton_of p) = to_within (automaton_of p) (letter_at w i) q r made edge in
      let there : Reaches (automaton_of p) q r = edge_reaches (automaton_of p) (letter_at w i) q r r edge (reaches_self (automaton_of p) r) in
      let stays : leaves p q r ≡ false = stays_joined p q r ((reached_is (automaton_of p) q r made at.state hr).1 (there, back)) in
      over_edge i q r least (least + rise_at (automaton_of p) r) at edge (λ d h. rw (after_stays p q r d stays) (omega (arith, h)))

  along : (n i q j r least : ℕ) → HasLeast p numbers w states i q least → Path (automaton_of p) w (suc n) i q j r → Reaches (automaton_of p) r q
      → HasLeast p numbers w states j r (least + rise_at (automaton_of p) r)
  along zero i q j r least at path back =
      let last : HasLeast p numbers w states (next w i) path.0 (least + rise_at (automaton_of p) path.0)
      = rises i q path.0 least at path.1 (subst (λ s. Reaches (automaton_of p) s q) (sym path.2.1) back) in
      let here : HasLeast p numbers w states j path.0 (least + rise_at (automaton_of p) path.0) = subst (λ k. HasLeast p numbers w states k path.0 (least + rise_at (automaton_of p) path.0)) path.2.0 last in
      subst (λ s. HasLeast p numbers w states j s (least + rise_at (automaton_of p) s)) path.2.1 here
  along (suc n) i q j r least at path back =
      let first : HasLeast p numbers w states (next w i) path.0 (least + rise_at (automaton_of p) path.0)
      = rises i q path.0 least at path.1 (path_reaches (automaton_of p) w (suc n) (next w i) path.0 j r q path.2 back) in
      let back' : Reaches (automaton_of p) r path.0
      = reaches_on (automaton_of p) r q path.0 back (edge_reaches (automaton_of p) (letter_at w i) q path.0 path.0 path.1 (reaches_self (automaton_of p) path.0)) in
      let rest : HasLeast p numbers w states j r ((least + rise_at (automaton_of p) path.0) + rise_at (automaton_of p) r)
      = along n (next w i) path.0 j r (least + rise_at (automaton_of p) path.0) first path.2 back' in
      let enough : (least + rise_at (automaton_of p) path.0) + rise_at (automaton_of p) r ≤ rest.has.number = rest.has.enough in
      record {
        position = rest.position;
        state = rest.state;
        has = record { number = rest.has.number; stands = rest.has.stands; enough = omega arith };
      }

  start : HasLeast p numbers w states 0 0 0
  start =
      let ring : 0 < length w.ring = run.ring in
      let states_some : 0 < states_of (automaton_of p) = made.some in
      record {
        position = omega arith;
        state = states_some;
        has = record {
          number = valid.start.number;
          stands = subst (λ t. number_at p numbers t 0 ≡ Some valid.start.number) (sym run.start) valid.start.stands;
          enough = omega arith;
        };
      }

  reached : (n i q j r : ℕ) → HasLeast p numbers w states i q 0 → Path (automaton_of p) w n i q j r → HasLeast p numbers w states j r 0
  reached zero i q j r at path = subst (λ k. HasLeast p numbers w states k r 0) path.0 (subst (λ s. HasLeast p numbers w states i s 0) path.1 at)
  reached (suc n) i q j r at path = reached n (next w i) path.0 j r (over_edge i q path.0 0 0 at path.1 (λ d h. omega arith)) path.2

  pub never_accepted : Accepts (automaton_of p) w → ⊥
  never_accepted accepted =
      let at : HasLeast p numbers w states accepted.position accepted.state 0 = reached accepted.steps 0 0 accepted.position accepted.state start accepted.path in
      let from : HasLeast p numbers w states accepted.position accepted.state at.has.number = record {
        position = at.position;
        state = at.state;
        has = record { number = at.has.number; stands = at.has.stands; enough = omega arith };
      } in
      let back : HasLeast p numbers w states accepted.position accepted.state (at.has.number + rise_at (automaton_of p) accepted.state)
      = along accepted.further accepted.position accepted.state accepted.position accepted.state at.has.number from accepted.cycle (reaches_self (automaton_of p) accepted.state) in
      let one : rise_at (automaton_of p) accepted.state ≡ 1 = ap (λ b. cond b 1 0) accepted.rejecting in
      let same : Some at.has.number ≡ Some back.has.number = sym at.has.stands ∙ back.has.stands in
      let equal : at.has.number ≡ back.has.number = cc in
      let enough : at.has.number + rise_at (automaton_of p) accepted.state ≤ back.has.number = back.has.enough in
      omega arith
