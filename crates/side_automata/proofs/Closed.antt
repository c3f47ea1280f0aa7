use Rattle.std.proofs.Common.{◌≡◌, ℕ, zero, suc, ◌+◌, ◌^◌, ◌<◌, List, [], ◌∷◌, ◌++◌, length, get_or, take, refl, sym, ap, ◌∙◌, arith, inl, inr}
use Rattle.std.proofs.lemmas.Bool.{cases_eq}
use Rattle.std.proofs.lemmas.List.{length-take-le, length-drop, length_push, take-append-drop}
use Rattle.letters_and_lassos.specs.declared.letters.Letter.{Letter}
use Rattle.letters_and_lassos.specs.declared.kinds.Side.{Side}
use Rattle.letters_and_lassos.specs.Word.{lasso_len, next, letter_at, no_signals}
use Rattle.letters_and_lassos.proofs.Positions.{next-last, next-inner}
use Rattle.machine_model.specs.Machine.{MachineModel, next_of, writes_of}
use Rattle.machine_model.specs.Run.{IsRunLasso, read_part, written_part}
use Rattle.machine_model.proofs.Closing.{cut}
use Rattle.machine_model.proofs.Courses.{push_agrees}

-- the first values of a function
abbrev pub firsts : (ℕ → ℕ) → ℕ → List ℕ
firsts f zero = []
firsts f (suc n) = firsts f n ++ f n ∷ []

length-firsts : (f : ℕ → ℕ) (n : ℕ) → length (firsts f n) ≡ n
length-firsts f zero = refl
length-firsts f (suc n) = let one : n + 1 ≡ suc n = omega arith in length_push (firsts f n) (f n) ∙ ap (λ k. k + 1) (length-firsts f n) ∙ one

get_or-firsts : (f : ℕ → ℕ) (n i : ℕ) → i < n → get_or (firsts f n) i 0 ≡ f i
get_or-firsts f zero i h = absurd (omega arith)
get_or-firsts f (suc n) i h =
    push_agrees f (firsts f n) (f n) 0 (λ k g. get_or-firsts f n k (rw length-firsts at g)) (ap f (sym (length-firsts f n))) i (let e : length (firsts f n) ≡ n = length-firsts f n in omega (arith, e, h))

-- Letters of a machine's run: at step i it is in state f i and reads r i; and it comes back to the state of step p.
pub record ComesBack (m : MachineModel) (side : Side) (letters : List Letter) (f r : ℕ → ℕ) (p : ℕ) : Type 0 where
  pub before : p < length letters
  pub start : f 0 ≡ 0
  pub within : (i : ℕ) → r i < 2 ^ m.reads
  pub read : (i : ℕ) → i < length letters → read_part side m (get_or letters i no_signals) ≡ r i
  pub written : (i : ℕ) → i < length letters → written_part side m (get_or letters i no_signals) ≡ writes_of m (f i) (r i)
  pub step : (i : ℕ) → f (suc i) ≡ next_of m (f i) (r i)
  pub again : f p ≡ f (length letters)

module _ (m : MachineModel) (side : Side) (letters : List Letter) (f r : ℕ → ℕ) (p : ℕ) (back : ComesBack m side letters f r p) where
  abbrev states : List ℕ
  states = firsts f (length letters)

  len : lasso_len (cut letters p) ≡ length letters
  len =
      let before : p < length letters = back.before in
      omega (arith, before, length-take-le p letters (omega arith), length-drop p letters)

  letter : (i : ℕ) → letter_at (cut letters p) i ≡ get_or letters i no_signals
  letter i = ap (λ (xs : List Letter). get_or xs i no_signals) (take-append-drop p letters)

  state : (i : ℕ) → i < length letters → get_or states i 0 ≡ f i
  state i h = get_or-firsts f (length letters) i h

  moved : (i : ℕ) → i < length letters → get_or states (next (cut letters p) i) 0 ≡ f (suc i)
  moved i h = elim (cases_eq (i + 1) (length letters)) [
    | inl last ↦
        let stem : length (take p letters) ≡ p = length-take-le p letters (let before : p < length letters = back.before in omega arith) in
        let end : length letters ≡ suc i = omega arith in
        ap (λ n. get_or states n 0) (next-last (cut letters p) i (last ∙ sym len) ∙ stem) ∙ state p back.before ∙ back.again ∙ ap f end
    | inr ne ↦
        let inner : i + 1 ≡ lasso_len (cut letters p) → ⊥ = λ e. ne (e ∙ len) in
        let apart : i + 1 ≡ length letters → ⊥ = ne in
        let one : i + 1 ≡ suc i = omega arith in
        ap (λ n. get_or states n 0) (next-inner (cut letters p) i inner ∙ one) ∙ state (suc i) (omega arith)
  ]

  read_here : (i : ℕ) → i < length letters → read_part side m (letter_at (cut letters p) i) ≡ r i
  read_here i h = ap (read_part side m) (letter i) ∙ back.read i h

  -- so the letters with their ring from there on are a run lasso
  pub comes_back : IsRunLasso m side (cut letters p) (firsts f (length letters))
  comes_back = record {
    ring = let before : p < length letters = back.before in omega (arith, before, length-drop p letters);
    places = length-firsts f (length letters) ∙ sym len;
    start = state 0 (let before : p < length letters = back.before in omega arith) ∙ back.start;
    reads = λ i h. rw (read_here i (rw len at h)) (back.within i);
    writes = λ i h. let inside : i < length letters = rw len at h in
        ap (written_part side m) (letter i) ∙ back.written i inside
        ∙ sym (ap (λ t. writes_of m t (read_part side m (letter_at (cut letters p) i))) (state i inside) ∙ ap (writes_of m (f i)) (read_here i inside));
    moves = λ i h. let inside : i < length letters = rw len at h in
        moved i inside ∙ back.step i
        ∙ sym (ap (λ t. next_of m t (read_part side m (letter_at (cut letters p) i))) (state i inside) ∙ ap (next_of m (f i)) (read_here i inside));
  }
