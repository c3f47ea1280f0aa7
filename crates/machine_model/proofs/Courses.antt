use Rattle.std.proofs.Common.{◌≡◌, ℕ, suc, ◌+◌, ◌<◌, List, [], ◌∷◌, ◌++◌, length, get_or, refl, sym, ap, ◌∙◌, arith, below_more}
use Rattle.std.proofs.lemmas.List.{length_push, get_or_push, get_or_append_left}
use Rattle.letters_and_lassos.specs.declared.letters.Letter.{Letter}
use Rattle.letters_and_lassos.specs.declared.kinds.Side.{Side}
use Rattle.letters_and_lassos.specs.Word.{Word, no_signals}
use Rattle.machine_model.specs.Machine.{MachineModel, size_of, next_of}
use Rattle.machine_model.specs.Course.{IsCourse, read_at, state_after, letter_of}

-- one more element at the end of a list that agrees with a function
pub push_agrees : {X : Type 0} (f : ℕ → X) (xs : List X) (x d : X) → ((i : ℕ) → i < length xs → get_or xs i d ≡ f i) → x ≡ f (length xs)
    → (i : ℕ) → i < length xs + 1 → get_or (xs ++ x ∷ []) i d ≡ f i
push_agrees f xs x d before last =
    below_more (λ i. get_or (xs ++ x ∷ []) i d ≡ f i) (length xs)
    (λ i h. get_or_append_left xs (x ∷ []) d i h ∙ before i h)
    (get_or_push xs x d (length xs) refl ∙ last)

-- a course goes on by the word's next letter
pub course_more : (m : MachineModel) (side : Side) (reads : Word) (letters : List Letter) (states : List ℕ) (s r : ℕ)
    → IsCourse m side reads letters states s → r ≡ read_at reads (length letters) → next_of m s r < size_of m
    → IsCourse m side reads (letters ++ letter_of side m s r ∷ []) (states ++ s ∷ []) (next_of m s r)
course_more m side reads letters states s r course read within =
    let n : length (letters ++ letter_of side m s r ∷ []) ≡ length letters + 1 = length_push letters (letter_of side m s r) in
    let k : length (states ++ s ∷ []) ≡ length states + 1 = length_push states s in
    let same : length states ≡ length letters = course.places in
    let one : length letters + 1 ≡ suc (length letters) = omega arith in
    record {
      places = omega arith;
      letter = rw n (push_agrees (λ i. letter_of side m (state_after m reads i) (read_at reads i)) letters (letter_of side m s r) no_signals course.letter
          (ap (λ t. letter_of side m t r) course.after ∙ ap (letter_of side m (state_after m reads (length letters))) read));
      before = rw (n, ← same) (push_agrees (state_after m reads) states s 0 (rw same course.before) (rw same course.after));
      after = ap (λ t. next_of m t r) course.after ∙ ap (next_of m (state_after m reads (length letters))) read ∙ ap (state_after m reads) (sym (n ∙ one));
      within = within;
    }
