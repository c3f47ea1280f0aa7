use Rattle.std.proofs.Common.{◌≡◌, ℕ, ◌+◌, ◌-◌, ◌<◌, ◌≤◌, List, ◌++◌, length, get_or, drop, refl, sym, ap, subst, ◌∙◌, arith, inl, inr}
use Rattle.std.proofs.lemmas.Bool.{cases_eq, cases_lt}
use Rattle.std.proofs.lemmas.List.{length-append, length-drop, get_or_append_left, get_or-append_right, get_or-drop}
use Rattle.letters_and_lassos.specs.Word.{Word, HasRing, lasso_len, next, letter_at, no_signals, unrolled_of}
use Rattle.letters_and_lassos.proofs.Positions.{next-last, next-inner, first_position}
use Rattle.machine_model.specs.Laws.{RunsUnroll}

-- a position of the unrolled lasso stands for a position of the lasso: it has its letter and its state, and so has its next
pub record StandsFor (w : Word) (states : List ℕ) (i k : ℕ) : Type 0 where
  pub within : k < lasso_len w
  pub letter : letter_at (unrolled_of w) i ≡ letter_at w k
  pub state : get_or (states ++ drop (length w.stem) states) i 0 ≡ get_or states k 0
  pub next : get_or (states ++ drop (length w.stem) states) (next (unrolled_of w) i) 0 ≡ get_or states (next w k) 0

module _ (w : Word) (states : List ℕ) (ring : HasRing w) (places : length states ≡ lasso_len w) where
  abbrev states' : List ℕ
  states' = states ++ drop (length w.stem) states

  len : lasso_len (unrolled_of w) ≡ lasso_len w + length w.ring
  len = let e : length (w.stem ++ w.ring) ≡ length w.stem + length w.ring = length-append w.stem w.ring in omega (arith, e)

  old_state : (i : ℕ) → i < lasso_len w → get_or states' i 0 ≡ get_or states i 0
  old_state i h = get_or_append_left states (drop (length w.stem) states) 0 i (rw places h)

  new_state : (k : ℕ) → length w.stem ≤ k → k < lasso_len w → get_or states' (k + length w.ring) 0 ≡ get_or states k 0
  new_state k from h =
      let e : length w.stem + (k + length w.ring - lasso_len w) ≡ k = omega (arith, from) in
      get_or-append_right states (drop (length w.stem) states) (lasso_len w) (k + length w.ring) 0 places (omega (arith, from))
      ∙ get_or-drop (length w.stem) states (k + length w.ring - lasso_len w) 0 ∙ ap (λ n. get_or states n 0) e

  old_letter : (i : ℕ) → i < lasso_len w → letter_at (unrolled_of w) i ≡ letter_at w i
  old_letter i h = get_or_append_left (w.stem ++ w.ring) w.ring no_signals i (rw length-append h)

  new_letter : (k : ℕ) → length w.stem ≤ k → k < lasso_len w → letter_at (unrolled_of w) (k + length w.ring) ≡ letter_at w k
  new_letter k from h =
      let e : k + length w.ring - lasso_len w ≡ k - length w.stem = omega (arith, from) in
      get_or-append_right (w.stem ++ w.ring) w.ring (lasso_len w) (k + length w.ring) no_signals (length-append w.stem w.ring) (omega (arith, from))
      ∙ ap (λ n. get_or w.ring n no_signals) e ∙ sym (get_or-append_right w.stem w.ring (length w.stem) k no_signals refl from)

  -- after a position's last one in the ring comes the ring's first, in either copy
  last_old : (i : ℕ) → i + 1 ≡ lasso_len w → get_or states' (next (unrolled_of w) i) 0 ≡ get_or states (next w i) 0
  last_old i e =
      let inner : i + 1 ≡ lasso_len (unrolled_of w) → ⊥ = λ f. omega (arith, len, e) in
      let there : i + 1 ≡ length w.stem + length w.ring = e in
      ap (λ n. get_or states' n 0) (next-inner (unrolled_of w) i inner ∙ there) ∙ new_state (length w.stem) (omega arith) (omega arith)
      ∙ ap (λ n. get_or states n 0) (sym (next-last w i e))

  inner_old : (i : ℕ) → i + 1 < lasso_len w → get_or states' (next (unrolled_of w) i) 0 ≡ get_or states (next w i) 0
  inner_old i h =
      let inner : i + 1 ≡ lasso_len w → ⊥ = λ e. omega arith in
      let inner' : i + 1 ≡ lasso_len (unrolled_of w) → ⊥ = λ e. omega (arith, len) in
      ap (λ n. get_or states' n 0) (next-inner (unrolled_of w) i inner') ∙ old_state (i + 1) h ∙ ap (λ n. get_or states n 0) (sym (next-inner w i inner))

  last_new : (k : ℕ) → k + 1 ≡ lasso_len w → get_or states' (next (unrolled_of w) (k + length w.ring)) 0 ≡ get_or states (next w k) 0
  last_new k e =
      let last : k + length w.ring + 1 ≡ lasso_len (unrolled_of w) = omega (arith, len, e) in
      let stem : length (w.stem ++ w.ring) ≡ length w.stem + length w.ring = length-append w.stem w.ring in
      ap (λ n. get_or states' n 0) (next-last (unrolled_of w) (k + length w.ring) last ∙ stem) ∙ new_state (length w.stem) (omega arith) (omega arith)
      ∙ ap (λ n. get_or states n 0) (sym (next-last w k e))

  inner_new : (k : ℕ) → length w.stem ≤ k → k + 1 < lasso_len w → get_or states' (next (unrolled_of w) (k + length w.ring)) 0 ≡ get_or states (next w k) 0
  inner_new k from h =
      let inner : k + 1 ≡ lasso_len w → ⊥ = λ e. omega arith in
      let inner' : k + length w.ring + 1 ≡ lasso_len (unrolled_of w) → ⊥ = λ e. omega (arith, len) in
      let e : k + length w.ring + 1 ≡ k + 1 + length w.ring = omega arith in
      ap (λ n. get_or states' n 0) (next-inner (unrolled_of w) (k + length w.ring) inner' ∙ e) ∙ new_state (k + 1) (omega (arith, from)) h
      ∙ ap (λ n. get_or states n 0) (sym (next-inner w k inner))

  in_old : (i : ℕ) → i < lasso_len w → StandsFor w states i i
  in_old i h = record {
    within = h;
    letter = old_letter i h;
    state = old_state i h;
    next = elim (cases_eq (i + 1) (lasso_len w)) [ inl e ↦ last_old i e | inr ne ↦ let apart : i + 1 ≡ lasso_len w → ⊥ = ne in inner_old i (omega arith) ];
  }

  in_new : (k : ℕ) → length w.stem ≤ k → k < lasso_len w → StandsFor w states (k + length w.ring) k
  in_new k from h = record {
    within = h;
    letter = new_letter k from h;
    state = new_state k from h;
    next = elim (cases_eq (k + 1) (lasso_len w)) [ inl e ↦ last_new k e | inr ne ↦ let apart : k + 1 ≡ lasso_len w → ⊥ = ne in inner_new k from (omega arith) ];
  }

  pub stands_for : (i : ℕ) → i < lasso_len (unrolled_of w) → (k : ℕ) × StandsFor w states i k
  stands_for i h = elim (cases_lt i (lasso_len w)) [
    | inl old ↦ (i, in_old i old)
    | inr new ↦
        let past : lasso_len w ≤ i = new in
        let k : ℕ = i - length w.ring in
        let e : i - length w.ring + length w.ring ≡ i = omega (arith, past) in
        (i - length w.ring, subst (λ n. StandsFor w states n (i - length w.ring)) e (in_new (i - length w.ring) (omega (arith, past)) (omega (arith, past, len, h))))
  ]

pub runs_unroll : RunsUnroll
runs_unroll m side w states run = record {
  ring = run.ring;
  places =
      let a : length (states ++ drop (length w.stem) states) ≡ length states + length (drop (length w.stem) states) = length-append states (drop (length w.stem) states) in
      let b : length (drop (length w.stem) states) ≡ length states - length w.stem = length-drop (length w.stem) states in
      omega (arith, a, b, run.places, len w states run.ring run.places);
  start = old_state w states run.ring run.places 0 (first_position w run.ring) ∙ run.start;
  reads = λ i h.
      let s = stands_for w states run.ring run.places i h in
      rw s.1.letter (run.reads s.0 s.1.within);
  writes = λ i h.
      let s = stands_for w states run.ring run.places i h in
      rw (s.1.letter, s.1.state) (run.writes s.0 s.1.within);
  moves = λ i h.
      let s = stands_for w states run.ring run.places i h in
      rw (s.1.letter, s.1.state, s.1.next) (run.moves s.0 s.1.within);
}
