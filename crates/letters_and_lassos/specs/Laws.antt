use Rattle.std.specs.Prelude.{◌≡◌, ℕ, suc, ◌+◌, ◌^◌, ◌<◌, ◌≤◌, length}
use Rattle.letters_and_lassos.specs.Word.{Word, HasRing, IsLassoOver, SameWord, SameFuture, lasso_len, next, after, letter_at, unrolled_of, unrolled_times}

-- one step, and so any number of steps, stays among the lasso's positions
pub record StepsStayWithin : Type 0 where
  pub next_within : (w : Word) (i : ℕ) → HasRing w → i < lasso_len w → next w i < lasso_len w
  pub after_within : (w : Word) (i j : ℕ) → HasRing w → i < lasso_len w → after w i j < lasso_len w

-- steps add up; each position is reached from 0 by its own number of steps; as many steps as there are
-- positions lead to where the ring begins, and as many as the ring is long lead round it
pub record StepsAddUp : Type 0 where
  pub added : (w : Word) (i j k : ℕ) → after w i (j + k) ≡ after w (after w i j) k
  pub one_more : (w : Word) (i j : ℕ) → after w i (suc j) ≡ next w (after w i j)
  pub own_number : (w : Word) (j : ℕ) → j < lasso_len w → after w 0 j ≡ j
  pub once_through : (w : Word) → HasRing w → after w 0 (lasso_len w) ≡ length w.stem
  pub round_the_ring : (w : Word) (i : ℕ) → HasRing w → length w.stem ≤ i → i < lasso_len w → after w i (length w.ring) ≡ i

-- any number of unrollings gives the same word
abbrev pub UnrollingKeepsTheWord : Type 0
UnrollingKeepsTheWord = (n : ℕ) (w : Word) → HasRing w → SameWord (unrolled_times n w) w

-- positions with one future have one letter, and so have the positions after them; in two lassos of the same
-- word the positions after equally many steps have one future
pub record FuturesShift : Type 0 where
  pub now : (v w : Word) (i k : ℕ) → SameFuture v i w k → letter_at v i ≡ letter_at w k
  pub later : (v w : Word) (i k j : ℕ) → SameFuture v i w k → SameFuture v (after v i j) w (after w k j)
  pub of_word : (v w : Word) (j : ℕ) → SameWord v w → SameFuture v (after v 0 j) w (after w 0 j)

-- a lasso over n signals has such letters at every position, and unrolling keeps this
pub record LettersStayOver : Type 0 where
  pub letters : (n : ℕ) (w : Word) (i : ℕ) → IsLassoOver n w → (letter_at w i).0 < 2 ^ n
  pub unrolled : (n : ℕ) (w : Word) → IsLassoOver n w → IsLassoOver n (unrolled_of w)
