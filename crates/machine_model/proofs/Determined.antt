use Rattle.std.proofs.Common.{◌≡◌, ℕ, zero, suc, ◌+◌, ◌^◌, ◌<◌, List, length, get_or, refl, sym, ap, ◌∙◌, arith}
use Rattle.std.proofs.lemmas.Nat.{mul-add-lt, pow-add}
use Rattle.std.proofs.lemmas.List.{length-map, get_or-map, get_or_default, get_or_append_left, get_or-append-add}
use Rattle.std.proofs.Math.Nat.{mul_comm}
use Rattle.letters_and_lassos.specs.declared.letters.Letter.{Letter}
use Rattle.letters_and_lassos.specs.declared.kinds.Side.{Side}
use Rattle.letters_and_lassos.specs.declared.kinds.Side.TheVariants.{System, Environment}
use Rattle.letters_and_lassos.specs.Word.{Word, IsLassoOver, lasso_len, after, letter_at, nth_letter, no_signals}
use Rattle.letters_and_lassos.proofs.Positions.{after-own, after-suc, after_within, first_position}
use Rattle.machine_model.specs.Machine.{MachineModel, IsMachine, size_of, next_of, writes_of}
use Rattle.machine_model.specs.Run.{IsRunLasso, joined_letter, read_part, written_part, read_lasso}
use Rattle.machine_model.specs.Course.{read_at, state_after}
use Rattle.machine_model.specs.Laws.{RunsAreDetermined, MooreWritesBeforeReading, StaysWithin}
use Rattle.machine_model.proofs.Readings.{joined-parts, nth_letter-read}
use Rattle.machine_model.proofs.Closing.{read_within, state_within}

module _ (m : MachineModel) (side : Side) (w : Word) (states : List ℕ) (run : IsRunLasso m side w states) where
  -- what is read at step j
  pub read_at-run : (j : ℕ) → read_at (read_lasso side m w) j ≡ read_part side m (nth_letter w j)
  read_at-run j = ap (λ (l : Letter). l.0) (nth_letter-read side m w run.ring j)

  pub step_within : (j : ℕ) → after w 0 j < lasso_len w
  step_within j = after_within w 0 j run.ring (first_position w run.ring)

  -- the state at step j is the one that the letters read before lead to
  pub states-run : (j : ℕ) → get_or states (after w 0 j) 0 ≡ state_after m (read_lasso side m w) j
  states-run zero = run.start
  states-run (suc j) =
      ap (λ i. get_or states i 0) (after-suc w 0 j) ∙ run.moves (after w 0 j) (step_within j)
      ∙ ap (λ t. next_of m t (read_part side m (nth_letter w j))) (states-run j)
      ∙ ap (next_of m (state_after m (read_lasso side m w) j)) (sym (read_at-run j))

  -- and what is written at step j is what that state writes
  pub written-run : (j : ℕ) → written_part side m (nth_letter w j) ≡ writes_of m (state_after m (read_lasso side m w) j) (read_at (read_lasso side m w) j)
  written-run j =
      run.writes (after w 0 j) (step_within j)
      ∙ ap (λ t. writes_of m t (read_part side m (nth_letter w j))) (states-run j)
      ∙ ap (writes_of m (state_after m (read_lasso side m w) j)) (sym (read_at-run j))

-- the state after j letters depends on those letters alone
pub state_after-same : (m : MachineModel) (v w : Word) (j : ℕ) → ((k : ℕ) → k < j → read_at v k ≡ read_at w k) → state_after m v j ≡ state_after m w j
state_after-same m v w zero same = refl
state_after-same m v w (suc j) same =
    ap (λ t. next_of m t (read_at v j)) (state_after-same m v w j (λ k h. same k (omega arith))) ∙ ap (next_of m (state_after m w j)) (same j (omega arith))

pub runs_are_determined : RunsAreDetermined
runs_are_determined m side v w s t run_v run_w same = record {
  letters = λ j.
      let reads : (k : ℕ) → read_at (read_lasso side m v) k ≡ read_at (read_lasso side m w) k = λ k. ap (λ (l : Letter). l.0) (same.letters k) in
      let state : state_after m (read_lasso side m v) j ≡ state_after m (read_lasso side m w) j = state_after-same m (read_lasso side m v) (read_lasso side m w) j (λ k h. reads k) in
      let read : read_part side m (nth_letter v j) ≡ read_part side m (nth_letter w j) = sym (read_at-run m side v s run_v j) ∙ reads j ∙ read_at-run m side w t run_w j in
      let written : written_part side m (nth_letter v j) ≡ written_part side m (nth_letter w j) =
      written-run m side v s run_v j ∙ ap (λ u. writes_of m u (read_at (read_lasso side m v) j)) state
      ∙ ap (writes_of m (state_after m (read_lasso side m w) j)) (reads j) ∙ sym (written-run m side w t run_w j) in
      let number : (nth_letter v j).0 ≡ (nth_letter w j).0 =
      sym (joined-parts side m (nth_letter v j)) ∙ ap (λ r. joined_letter side m r (written_part side m (nth_letter v j))) read
      ∙ ap (joined_letter side m (read_part side m (nth_letter w j))) written ∙ joined-parts side m (nth_letter w j) in
      ap (λ n. let l : Letter = record { 0 = n } in l) number;
}

module _ (m : MachineModel) (side : Side) (w : Word) (states : List ℕ) (run : IsRunLasso m side w states) where
  -- a fact of each letter of a lasso holds of its stem and of its ring
  pub read_over : IsLassoOver m.reads (read_lasso side m w)
  read_over = record {
    ring = rw length-map run.ring;
    stem_letters = λ k d h.
        let f : Letter → Letter = λ letter. record { 0 = read_part side m letter } in
        let within : k < length w.stem = rw length-map at h in
        let here : read_part side m (letter_at w k) < 2 ^ m.reads = run.reads k (omega arith) in
        let at_stem : letter_at w k ≡ get_or w.stem k no_signals = get_or_append_left w.stem w.ring no_signals k within in
        rw (get_or-map f w.stem k no_signals d within) (rw at_stem at here);
    ring_letters = λ k d h.
        let f : Letter → Letter = λ letter. record { 0 = read_part side m letter } in
        let within : k < length w.ring = rw length-map at h in
        let here : read_part side m (letter_at w (length w.stem + k)) < 2 ^ m.reads = run.reads (length w.stem + k) (omega arith) in
        let at_ring : letter_at w (length w.stem + k) ≡ get_or w.ring k no_signals = get_or-append-add w.stem w.ring k no_signals in
        rw (get_or-map f w.ring k no_signals d within) (rw at_ring at here);
  }

pub moore_writes_before_reading : MooreWritesBeforeReading
moore_writes_before_reading m side v w s t j machine moore run_v run_w same =
    let state : state_after m (read_lasso side m v) j ≡ state_after m (read_lasso side m w) j =
    state_after-same m (read_lasso side m v) (read_lasso side m w) j (λ k h. ap (λ (l : Letter). l.0) (same k h)) in
    written-run m side v s run_v j ∙ ap (λ u. writes_of m u (read_at (read_lasso side m v) j)) state
    ∙ machine.moore moore (state_after m (read_lasso side m w) j) (read_at (read_lasso side m v) j) (read_at (read_lasso side m w) j)
    (state_within m machine (read_lasso side m w) (read_over m side w t run_w) j)
    (read_within m machine (read_lasso side m v) (read_over m side v s run_v) j)
    (read_within m machine (read_lasso side m w) (read_over m side w t run_w) j)
    ∙ sym (written-run m side w t run_w j)

-- joined_letter letters are letters of both numbers of signals
joined-lt : (side : Side) (m : MachineModel) (read written : ℕ) → read < 2 ^ m.reads → written < 2 ^ m.writes → joined_letter side m read written < 2 ^ (m.reads + m.writes)
joined-lt System m read written r w = rw pow-add (mul-add-lt written (2 ^ m.reads) read (2 ^ m.writes) w r)
joined-lt Environment m read written r w =
    rw (pow-add, mul_comm (2 ^ m.reads) (2 ^ m.writes)) (mul-add-lt read (2 ^ m.writes) written (2 ^ m.reads) r w)

module _ (m : MachineModel) (side : Side) (w : Word) (states : List ℕ) (machine : IsMachine m) (run : IsRunLasso m side w states) where
  state-lt : (i : ℕ) → i < lasso_len w → get_or states i 0 < size_of m
  state-lt i h =
      rw (ap (λ n. get_or states n 0) (sym (after-own w i h)) ∙ states-run m side w states run i)
      (state_within m machine (read_lasso side m w) (read_over m side w states run) i)

  letter-lt : (i : ℕ) → i < lasso_len w → (letter_at w i).0 < 2 ^ (m.reads + m.writes)
  letter-lt i h =
      let written : written_part side m (letter_at w i) < 2 ^ m.writes =
      rw (run.writes i h) (machine.letters (get_or states i 0) (read_part side m (letter_at w i)) (state-lt i h) (run.reads i h)) in
      rw (← joined-parts side m (letter_at w i)) (joined-lt side m (read_part side m (letter_at w i)) (written_part side m (letter_at w i)) (run.reads i h) written)

  pub stays_within : StaysWithin m w states
  stays_within = record {
    letters = record {
      ring = run.ring;
      stem_letters = λ k d h.
          let at_stem : letter_at w k ≡ get_or w.stem k no_signals = get_or_append_left w.stem w.ring no_signals k h in
          rw (get_or_default w.stem k d no_signals h) (rw at_stem at (letter-lt k (omega arith)));
      ring_letters = λ k d h.
          let at_ring : letter_at w (length w.stem + k) ≡ get_or w.ring k no_signals = get_or-append-add w.stem w.ring k no_signals in
          rw (get_or_default w.ring k d no_signals h) (rw at_ring at (letter-lt (length w.stem + k) (omega arith)));
    };
    in_range = λ k d h. rw (get_or_default states k d 0 h) (state-lt k (rw run.places at h));
  }
