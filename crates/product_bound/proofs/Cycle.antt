-- A path that comes back through a rejecting state gives a run lasso that the automaton accepts.
use Rattle.std.proofs.Common.{◌≡◌, ℕ, zero, suc, ◌+◌, ◌-◌, ◌^◌, ◌<◌, ◌≤◌, inl, inr, List, ◌++◌, length, map, take, drop, refl, sym, ap, ◌∙◌, subst, arith, min, get_or, slice_index}
use Rattle.std.specs.Prelude.{All, IsTrue}
use Rattle.std.proofs.lemmas.Bool.{cases_eq}
use Rattle.std.proofs.lemmas.List.{get_or_default, get_or-map, get_or-take, length-map, length-take, length-drop, map-append, take-append-drop, take-take}
use Rattle.letters_and_lassos.specs.Word.{Word, lasso_len, next, after, letter_at, no_signals}
use Rattle.letters_and_lassos.specs.declared.letters.Letter.{Letter}
use Rattle.letters_and_lassos.proofs.Positions.{next_within, next-inner, next-last, after-own, after_round}
use Rattle.machine_model.specs.Accepts.{Accepts, Path}
use Rattle.machine_model.specs.Automaton.{HasEdge, rejects}
use Rattle.machine_model.specs.Course.{letter_of}
use Rattle.machine_model.specs.Machine.{MachineModel, IsMachine, next_of, size_of, writes_of}
use Rattle.machine_model.specs.Problem.{automaton_of}
use Rattle.machine_model.specs.Run.{IsRunLasso, read_part, written_part}
use Rattle.machine_model.specs.declared.problems.Problem.{Problem}
use Rattle.product_bound.specs.Product.{IsRejectingCycle, IsStepOf, Leads, states_of_cycle, step_at, word_of_cycle}
use Rattle.product_bound.specs.declared.laws.ProductStep.{ProductStep}
use Rattle.machine_model.proofs.Readings.{read_part-joined, written_part-joined}

module _ (p : Problem) (m : MachineModel) (path : List ProductStep) (from : ℕ) (machine : IsMachine m) (some : 0 < size_of m) (cycle : IsRejectingCycle p m path from) where
  last : ℕ
  last = length path - 1

  is_last : last ≡ length path - 1
  unfolding last
  is_last = refl

  w : Word
  w = word_of_cycle p m path from

  is_w : w ≡ word_of_cycle p m path from
  unfolding w
  is_w = refl

  below : from < last
  below = let h : from + 1 < length path = cycle.below in let e : last ≡ length path - 1 = is_last in omega arith

  leads : (i : ℕ) → i < last → Leads p m (step_at path i) (step_at path (i + 1))
  leads i h = let e : last ≡ length path - 1 = is_last in cycle.steps.leads i (omega arith)

  joined-word : w.stem ++ w.ring ≡ map (λ step. letter_of p.side m step.t step.letter) (take (length path - 1) path)
  joined-word =
      let b : from < last = below in
      let e : last ≡ length path - 1 = is_last in
      let f : ProductStep → Letter = λ (step : ProductStep). letter_of p.side m step.t step.letter in
      let front : take from path ≡ take from (take (length path - 1) path) = sym (take-take from (length path - 1) path (omega arith)) in
      let whole_path : take from (take (length path - 1) path) ++ drop from (take (length path - 1) path) ≡ take (length path - 1) path = take-append-drop from (take (length path - 1) path) in
      let split : map f (take from (take (length path - 1) path) ++ drop from (take (length path - 1) path)) ≡ map f (take from (take (length path - 1) path)) ++ map f (drop from (take (length path - 1) path)) = map-append f (take from (take (length path - 1) path)) (drop from (take (length path - 1) path)) in
      rw is_w (ap (λ front'. map f front' ++ map f (drop from (take (length path - 1) path))) front ∙ sym split ∙ ap (map f) whole_path)

  stem-length : length w.stem ≡ from
  stem-length =
      let b : from < last = below in
      let e : last ≡ length path - 1 = is_last in
      rw is_w (simp (length-map, length-take) (omega arith))

  ring-length : length w.ring ≡ last - from
  ring-length =
      let b : from < last = below in
      let e : last ≡ length path - 1 = is_last in
      rw is_w (simp (length-map, length-drop, length-take) (omega arith))

  len : lasso_len w ≡ last
  len =
      let b : from < last = below in
      let s : length w.stem ≡ from = stem-length in
      let r : length w.ring ≡ last - from = ring-length in
      omega arith

  ring : 0 < length w.ring
  ring =
      let b : from < last = below in
      let r : length w.ring ≡ last - from = ring-length in
      omega arith

  letter_is : (i : ℕ) → i < last → letter_at w i ≡ letter_of p.side m (step_at path i).t (step_at path i).letter
  letter_is i h =
      let e : last ≡ length path - 1 = is_last in
      let f : ProductStep → Letter = λ (step : ProductStep). letter_of p.side m step.t step.letter in
      let d : ProductStep = record { t = 0; q = 0; letter = 0 } in
      let within : i < length (take (length path - 1) path) = simp length-take (omega arith) in
      let inside : i < length path - 1 = omega arith in
      ap (λ letters. get_or letters i no_signals) joined-word ∙ get_or-map f (take (length path - 1) path) i d no_signals within ∙ ap f (get_or-take (length path - 1) path i d inside)

  state_is : (i : ℕ) → i < last → slice_index (states_of_cycle path) i ≡ (step_at path i).t
  state_is i h =
      let e : last ≡ length path - 1 = is_last in
      let f : ProductStep → ℕ = λ (step : ProductStep). step.t in
      let d : ProductStep = record { t = 0; q = 0; letter = 0 } in
      let within : i < length (take (length path - 1) path) = simp length-take (omega arith) in
      let inside : i < length path - 1 = omega arith in
      get_or-map f (take (length path - 1) path) i d 0 within ∙ ap f (get_or-take (length path - 1) path i d inside)

  -- the pair at the next position is that of the next step
  next_t : (i : ℕ) → i < last → (step_at path (next w i)).t ≡ (step_at path (i + 1)).t
  next_t i h =
      let l : lasso_len w ≡ last = len in
      let e : last ≡ length path - 1 = is_last in
      elim (cases_eq (i + 1) (lasso_len w)) [
        | inl end ↦
            let back : next w i ≡ from = next-last w i end ∙ stem-length in
            let at : i + 1 ≡ length path - 1 = end ∙ l ∙ e in
            ap (λ k. (step_at path k).t) back ∙ sym cycle.back_t ∙ ap (λ k. (step_at path k).t) (sym at)
        | inr inner ↦ ap (λ k. (step_at path k).t) (next-inner w i inner)
      ]

  next_q : (i : ℕ) → i < last → (step_at path (next w i)).q ≡ (step_at path (i + 1)).q
  next_q i h =
      let l : lasso_len w ≡ last = len in
      let e : last ≡ length path - 1 = is_last in
      elim (cases_eq (i + 1) (lasso_len w)) [
        | inl end ↦
            let back : next w i ≡ from = next-last w i end ∙ stem-length in
            let at : i + 1 ≡ length path - 1 = end ∙ l ∙ e in
            ap (λ k. (step_at path k).q) back ∙ sym cycle.back_q ∙ ap (λ k. (step_at path k).q) (sym at)
        | inr inner ↦ ap (λ k. (step_at path k).q) (next-inner w i inner)
      ]

  next_below : (i : ℕ) → i < last → next w i < last
  next_below i h =
      let l : lasso_len w ≡ last = len in
      let n : next w i < lasso_len w = next_within w i ring (omega arith) in
      omega arith

  t_within : (i : ℕ) → i < last → (step_at path i).t < size_of m
  t_within zero h = rw cycle.steps.start_t some
  t_within (suc i) h =
      let before : i < last = omega arith in
      let lead : Leads p m (step_at path i) (step_at path (i + 1)) = leads i before in
      let there : next_of m (step_at path i).t (step_at path i).letter < size_of m = machine.nexts (step_at path i).t (step_at path i).letter (t_within i before) lead.letter in
      let e : suc i ≡ i + 1 = omega arith in
      rw (e, lead.moves) there

  written_small : (i : ℕ) → i < last → writes_of m (step_at path i).t (step_at path i).letter < 2 ^ m.writes
  written_small i h = machine.letters (step_at path i).t (step_at path i).letter (t_within i h) (leads i h).letter

  reads_is : (i : ℕ) → i < last → read_part p.side m (letter_at w i) ≡ (step_at path i).letter
  reads_is i h = ap (read_part p.side m) (letter_is i h) ∙ read_part-joined p.side m (step_at path i).letter (writes_of m (step_at path i).t (step_at path i).letter) (leads i h).letter (written_small i h)

  writes_is : (i : ℕ) → i < last → written_part p.side m (letter_at w i) ≡ writes_of m (step_at path i).t (step_at path i).letter
  writes_is i h = ap (written_part p.side m) (letter_is i h) ∙ written_part-joined p.side m (step_at path i).letter (writes_of m (step_at path i).t (step_at path i).letter) (leads i h).letter (written_small i h)

  in_run : (i : ℕ) → i < lasso_len w → i < last
  in_run i h = let l : lasso_len w ≡ last = len in omega arith

  places : length (states_of_cycle path) ≡ lasso_len w
  places =
      let l : lasso_len w ≡ last = len in
      let e : last ≡ length path - 1 = is_last in
      simp (length-map, length-take) (omega arith)

  run_here : IsRunLasso m p.side w (states_of_cycle path)
  run_here = record {
    ring = ring;
    places = places;
    start = state_is 0 (let b : from < last = below in omega arith) ∙ cycle.steps.start_t;
    reads = λ i h. rw (reads_is i (in_run i h)) (leads i (in_run i h)).letter;
    writes = λ i h. rw (state_is i (in_run i h), reads_is i (in_run i h)) (writes_is i (in_run i h));
    moves = λ i h. rw (state_is (next w i) (next_below i (in_run i h)), state_is i (in_run i h), reads_is i (in_run i h)) (next_t i (in_run i h) ∙ (leads i (in_run i h)).moves);
  }

  edge : (i : ℕ) → i < last → HasEdge (automaton_of p) (letter_at w i) (step_at path i).q (step_at path (next w i)).q
  edge i h = rw (letter_is i h, next_q i h) (leads i h).edge

  around : (n i : ℕ) → i < last → Path (automaton_of p) w n i (step_at path i).q (after w i n) (step_at path (after w i n)).q
  around zero i h = (refl, refl)
  around (suc n) i h = ((step_at path (next w i)).q, edge i h, around n (next w i) (next_below i h))

  -- a rejecting state at a position of the ring
  record MeetsAt : Type 0 where
    at : ℕ
    from_on : from ≤ at
    inside : at < last
    rejecting : IsTrue (rejects (automaton_of p) (step_at path at).q)

  meets : MeetsAt
  meets =
      let e : last ≡ length path - 1 = is_last in
      let b : from < last = below in
      let f : from ≤ cycle.met = cycle.met_from in
      let h : cycle.met < length path = cycle.met_below in
      elim (cases_eq cycle.met (length path - 1)) [
        | inl end ↦ record {
          at = from;
          from_on = omega arith;
          inside = b;
          rejecting = subst (λ q. IsTrue (rejects (automaton_of p) q)) cycle.back_q (subst (λ k. IsTrue (rejects (automaton_of p) (step_at path k).q)) end cycle.rejecting);
        }
        | inr inner ↦ record {
          at = cycle.met;
          from_on = f;
          inside = omega (arith, inner);
          rejecting = cycle.rejecting;
        }
      ]

  accepts_at : MeetsAt → Accepts (automaton_of p) w
  accepts_at at =
      let k : ℕ = at.at in
      let l : lasso_len w ≡ last = len in
      let b : from < last = below in
      let from_on : from ≤ k = at.from_on in
      let inside : k < last = at.inside in
      let s : length w.stem ≡ from = stem-length in
      let r : length w.ring ≡ last - from = ring-length in
      let own : after w 0 k ≡ k = after-own w k (omega arith) in
      let round : after w k (length w.ring) ≡ k = after_round w k ring (omega arith) (omega arith) in
      let n : length w.ring ≡ suc (length w.ring - 1) = omega arith in
      let to : Path (automaton_of p) w k 0 (step_at path 0).q k (step_at path k).q = rw own at (around k 0 (omega arith)) in
      let to_zero : Path (automaton_of p) w k 0 0 k (step_at path k).q = rw cycle.steps.start_q at to in
      let back : Path (automaton_of p) w (length w.ring) k (step_at path k).q k (step_at path k).q = rw round at (around (length w.ring) k inside) in
      record {
        position = k;
        state = (step_at path k).q;
        steps = k;
        further = length w.ring - 1;
        path = to_zero;
        rejecting = at.rejecting;
        cycle = rw n at back;
      }

  pub steps_within : All (IsStepOf m) (take (length path - 1) path)
  steps_within k d h =
      let e : last ≡ length path - 1 = is_last in
      let n : length (take (length path - 1) path) ≡ min (length path - 1) (length path) = length-take (length path - 1) path in
      let inside : k < length path - 1 = omega arith in
      let within : k < length path = omega arith in
      let here : get_or (take (length path - 1) path) k d ≡ step_at path k = get_or-take (length path - 1) path k d inside ∙ get_or_default path k d (record { t = 0; q = 0; letter = 0 }) within in
      rw here (record { state = t_within k (omega arith); letter = (leads k (omega arith)).letter })

  pub front_is : take from (take (length path - 1) path) ≡ take from path
  front_is =
      let b : from < last = below in
      let e : last ≡ length path - 1 = is_last in
      take-take from (length path - 1) path (omega arith)

  pub run : IsRunLasso m p.side (word_of_cycle p m path from) (states_of_cycle path)
  run = subst (λ v. IsRunLasso m p.side v (states_of_cycle path)) is_w run_here

  pub accepted : Accepts (automaton_of p) (word_of_cycle p m path from)
  accepted = subst (λ v. Accepts (automaton_of p) v) is_w (accepts_at meets)
