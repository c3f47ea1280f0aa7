use Rattle.std.proofs.Common.{◌≡◌, ℕ, zero, suc, ◌+◌, ◌^◌, ◌<◌, List, length, get_or, take, drop, refl, sym, ap, ◌∙◌, arith, inl, inr}
use Rattle.std.proofs.lemmas.Bool.{cases_eq}
use Rattle.std.proofs.lemmas.List.{length-take-le, length-drop, take-append-drop}
use Rattle.letters_and_lassos.specs.declared.letters.Letter.{Letter}
use Rattle.letters_and_lassos.specs.declared.kinds.Side.{Side}
use Rattle.letters_and_lassos.specs.Word.{Word, HasRing, IsLassoOver, SameWord, lasso_len, next, after, letter_at, no_signals}
use Rattle.letters_and_lassos.proofs.Positions.{next-last, next-inner, after-suc, after_within, letter_below}
use Rattle.machine_model.specs.Machine.{MachineModel, IsMachine, size_of, next_of, writes_of}
use Rattle.machine_model.specs.Run.{IsRunLasso, read_part, written_part, read_lasso}
use Rattle.machine_model.specs.Course.{IsCourse, read_at, state_after}
use Rattle.machine_model.proofs.Tables.{size_pos}
use Rattle.machine_model.proofs.Readings.{read_part-joined, written_part-joined, nth_letter-read}

module _ (m : MachineModel) (machine : IsMachine m) (reads : Word) (over : IsLassoOver m.reads reads) where
  -- what is read is a read letter, and each state is one of the machine
  pub read_within : (j : ℕ) → read_at reads j < 2 ^ m.reads
  read_within j = letter_below m.reads reads (after reads 0 j) over

  pub state_within : (j : ℕ) → state_after m reads j < size_of m
  state_within zero = size_pos m machine.shape
  state_within (suc j) = machine.nexts (state_after m reads j) (read_at reads j) (state_within j) (read_within j)

  pub write_within : (j : ℕ) → writes_of m (state_after m reads j) (read_at reads j) < 2 ^ m.writes
  write_within j = machine.letters (state_after m reads j) (read_at reads j) (state_within j) (read_within j)

-- The course closes at place p: the word stands at one position there and at the course's end, and so does the machine.
pub record Closes (m : MachineModel) (side : Side) (reads : Word) (letters : List Letter) (states : List ℕ) (state p : ℕ) : Type 0 where
  pub course : IsCourse m side reads letters states state
  pub before : p < length letters
  pub position : after reads 0 p ≡ after reads 0 (length letters)
  pub again : state ≡ state_after m reads p

-- the lasso of letters with its ring from place p on
abbrev pub cut : List Letter → ℕ → Word
cut letters p = record { stem = take p letters; ring = drop p letters }

module _ (m : MachineModel) (side : Side) (reads : Word) (letters : List Letter) (states : List ℕ) (state p : ℕ)
    (machine : IsMachine m) (over : IsLassoOver m.reads reads) (closes : Closes m side reads letters states state p) where
  len-cut : lasso_len (cut letters p) ≡ length letters
  len-cut =
      let before : p < length letters = closes.before in
      omega (arith, before, length-take-le p letters (omega arith), length-drop p letters)

  letter_at-cut : (i : ℕ) → letter_at (cut letters p) i ≡ get_or letters i no_signals
  letter_at-cut i = ap (λ (xs : List Letter). get_or xs i no_signals) (take-append-drop p letters)

  pub ring-cut : HasRing (cut letters p)
  ring-cut = let before : p < length letters = closes.before in omega (arith, before, length-drop p letters)

  -- the next position is the one that a step of the word leads to, and a step of the machine too
  step : (i : ℕ) → i < length letters
      → (after reads 0 (next (cut letters p) i) ≡ after reads 0 (suc i)) × (get_or states (next (cut letters p) i) 0 ≡ state_after m reads (suc i))
  step i h = elim (cases_eq (i + 1) (length letters)) [
    | inl last ↦
        let stem : length (take p letters) ≡ p = length-take-le p letters (let before : p < length letters = closes.before in omega arith) in
        let e : next (cut letters p) i ≡ p = next-last (cut letters p) i (last ∙ sym len-cut) ∙ stem in
        let end : length letters ≡ suc i = omega arith in (
          rw e (closes.position ∙ ap (after reads 0) end),
          rw e (closes.course.before p closes.before ∙ sym closes.again ∙ closes.course.after ∙ ap (state_after m reads) end),
        )
    | inr ne ↦
        let inner : i + 1 ≡ lasso_len (cut letters p) → ⊥ = λ e. ne (e ∙ len-cut) in
        let e : next (cut letters p) i ≡ suc i = next-inner (cut letters p) i inner ∙ (omega arith) in
        let apart : i + 1 ≡ length letters → ⊥ = ne in
        (ap (after reads 0) e, rw e (closes.course.before (suc i) (omega arith)))
  ]

  read-cut : (i : ℕ) → i < length letters → read_part side m (letter_at (cut letters p) i) ≡ read_at reads i
  read-cut i h =
      ap (read_part side m) (letter_at-cut i ∙ closes.course.letter i h)
      ∙ read_part-joined side m (read_at reads i) (writes_of m (state_after m reads i) (read_at reads i)) (read_within m machine reads over i) (write_within m machine reads over i)

  written-cut : (i : ℕ) → i < length letters → written_part side m (letter_at (cut letters p) i) ≡ writes_of m (state_after m reads i) (read_at reads i)
  written-cut i h =
      ap (written_part side m) (letter_at-cut i ∙ closes.course.letter i h)
      ∙ written_part-joined side m (read_at reads i) (writes_of m (state_after m reads i) (read_at reads i)) (read_within m machine reads over i) (write_within m machine reads over i)

  pub run-cut : IsRunLasso m side (cut letters p) states
  run-cut = record {
    ring = ring-cut;
    places = closes.course.places ∙ sym len-cut;
    start = closes.course.before 0 (let before : p < length letters = closes.before in omega arith);
    reads = λ i h. rw (read-cut i (rw len-cut at h)) (read_within m machine reads over i);
    writes = λ i h. let within : i < length letters = rw len-cut at h in
        written-cut i within ∙ sym (ap (λ t. writes_of m t (read_part side m (letter_at (cut letters p) i))) (closes.course.before i within) ∙ ap (writes_of m (state_after m reads i)) (read-cut i within));
    moves = λ i h. let within : i < length letters = rw len-cut at h in
        (step i within).1 ∙ sym (ap (λ t. next_of m t (read_part side m (letter_at (cut letters p) i))) (closes.course.before i within) ∙ ap (next_of m (state_after m reads i)) (read-cut i within));
  }

  -- the run's positions lead through the word's
  follows : (j : ℕ) → after reads 0 (after (cut letters p) 0 j) ≡ after reads 0 j
  follows zero = refl
  follows (suc j) =
      let within : after (cut letters p) 0 j < length letters = rw len-cut at (after_within (cut letters p) 0 j ring-cut (let before : p < length letters = closes.before in omega (arith, len-cut))) in
      ap (after reads 0) (after-suc (cut letters p) 0 j) ∙ (step (after (cut letters p) 0 j) within).0
      ∙ after-suc reads 0 (after (cut letters p) 0 j) ∙ ap (next reads) (follows j) ∙ sym (after-suc reads 0 j)

  pub same-cut : SameWord (read_lasso side m (cut letters p)) reads
  same-cut = record {
    letters = λ j.
        let within : after (cut letters p) 0 j < length letters = rw len-cut at (after_within (cut letters p) 0 j ring-cut (let before : p < length letters = closes.before in omega (arith, len-cut))) in
        nth_letter-read side m (cut letters p) ring-cut j ∙ ap (λ n. let l : Letter = record { 0 = n } in l) (read-cut (after (cut letters p) 0 j) within) ∙ ap (letter_at reads) (follows j);
  }
