use Rattle.std.specs.Prelude.{◌≡◌, ◌==◌, ℕ, zero, suc, ◌+◌, ◌^◌, ◌<◌, List, ◌++◌, length, All, slice_index_or, if◌then◌else◌}
use Rattle.letters_and_lassos.specs.declared.letters.Letter.{Letter}

-- an infinite word of letters: the stem, and then the ring again and again (textbooks of linear temporal logic)
pub record Word : Type 0 where
  pub stem : List Letter
  pub ring : List Letter

-- the lasso's number of positions
abbrev pub lasso_len : Word → ℕ
lasso_len w = length w.stem + length w.ring

-- the position after i: the stem's end after the last position
abbrev pub next : Word → ℕ → ℕ
next w i = if (i + 1 == lasso_len w) then length w.stem else (i + 1)

-- the letter with no signal
abbrev pub no_signals : Letter
no_signals = record { 0 = 0 }

-- the letter at a position
abbrev pub letter_at : Word → ℕ → Letter
letter_at w i = slice_index_or (w.stem ++ w.ring) i no_signals

-- the position j steps after i
abbrev pub after : Word → ℕ → ℕ → ℕ
after w i zero = i
after w i (suc j) = after w (next w i) j

-- letter number j of the infinite word
abbrev pub nth_letter : Word → ℕ → Letter
nth_letter w j = letter_at w (after w 0 j)

-- two lassos are one infinite word: their letters agree at every number
pub record SameWord (v w : Word) : Type 0 where
  pub letters : (j : ℕ) → nth_letter v j ≡ nth_letter w j

-- from position i of v on stand the letters that stand from position k of w on
pub record SameFuture (v : Word) (i : ℕ) (w : Word) (k : ℕ) : Type 0 where
  pub letters : (j : ℕ) → letter_at v (after v i j) ≡ letter_at w (after w k j)

-- the word has a ring, so that it goes on for ever
abbrev pub HasRing : Word → Type 0
HasRing w = 0 < length w.ring

-- a lasso over the first n signals: it has a ring, and its letters are numbers below 2 ^ n
pub record IsLassoOver (n : ℕ) (w : Word) : Type 0 where
  pub ring : HasRing w
  pub stem_letters : All (λ letter. letter.0 < 2 ^ n) w.stem
  pub ring_letters : All (λ letter. letter.0 < 2 ^ n) w.ring

-- one more copy of the ring at the stem's end
abbrev pub unrolled_of : Word → Word
unrolled_of w = record { stem = w.stem ++ w.ring; ring = w.ring }

-- n more copies of the ring at the stem's end
abbrev pub unrolled_times : ℕ → Word → Word
unrolled_times zero w = w
unrolled_times (suc n) w = unrolled_times n (unrolled_of w)
