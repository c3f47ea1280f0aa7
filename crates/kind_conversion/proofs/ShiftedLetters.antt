-- Letters of shifted words.
use Rattle.std.proofs.Common.{◌≡◌, ℕ, zero, suc, ◌+◌, ◌-◌, ◌*◌, ◌/◌, ◌%◌, ◌^◌, ◌<◌, ◌≤◌, Bool, true, false, not, cond, eqb, inl, inr, List, [], ◌∷◌, ◌++◌, length, get_or, All, refl, sym, ap, subst, ◌∙◌, arith, pow_pos, pow-add, mul_comm, div-add-mod'}
use Rattle.std.specs.Int.{bit_at}
use Rattle.std.proofs.lemmas.Bool.{cases_eq, cases_lt, lt-ltb, le-ltb, eqb-true, eq-eqb}
use Rattle.std.proofs.lemmas.List.{length-append, get_or_append_left, get_or_push}
use Rattle.std.proofs.lemmas.List.Elements.{All-cons, All-nil}
use Rattle.std.proofs.lemmas.Nat.{mod_below, mul-add-lt, shr_below}
use Rattle.std.proofs.lemmas.Nat.Bits.{bit_at_cat_low, bit_at_cat_high, bit_at-lt, same_from_bits}
use Rattle.std.proofs.Math.Seq.{get_or-append_right}
use Rattle.letters_and_lassos.specs.declared.letters.Letter.{Letter}
use Rattle.letters_and_lassos.specs.Signals.{has}
use Rattle.letters_and_lassos.specs.Word.{Word, HasRing, IsLassoOver, SameWord, lasso_len, next, after, letter_at, nth_letter, no_signals}
use Rattle.letters_and_lassos.proofs.Positions.{next-last, next-inner, after_within, after-suc, first_position}
use Rattle.kind_conversion.specs.declared.shifts.Shift.{Shift}
use Rattle.kind_conversion.specs.declared.shifts.Shift.TheVariants.{Inputs, Outputs}
use Rattle.kind_conversion.specs.Shifts.{is_shifted}
use Rattle.kind_conversion.specs.ShiftedWord.{IsShiftedWord, shifted_letter, shifted_letters, ring_start, shifted_word}
use Rattle.kind_conversion.specs.Laws.{ShiftedWordsAreWords}

-- ---- the signals of a letter

module _ (inputs read written : ℕ) where
  pub bit-read : (k : ℕ) → k < inputs → bit_at (written / 2 ^ inputs * 2 ^ inputs + read % 2 ^ inputs) k ≡ bit_at read k
  bit-read k below =
      bit_at_cat_low (written / 2 ^ inputs) inputs (read % 2 ^ inputs) k below
      ∙ sym (bit_at_cat_low (read / 2 ^ inputs) inputs (read % 2 ^ inputs) k below)
      ∙ ap (λ n. bit_at n k) (div-add-mod' read (2 ^ inputs))

  pub bit-written : (k : ℕ) → inputs ≤ k → bit_at (written / 2 ^ inputs * 2 ^ inputs + read % 2 ^ inputs) k ≡ bit_at written k
  bit-written k from =
      bit_at_cat_high (written / 2 ^ inputs) inputs (read % 2 ^ inputs) k (mod_below read (2 ^ inputs) (pow_pos inputs)) from
      ∙ sym (bit_at_cat_high (written / 2 ^ inputs) inputs (written % 2 ^ inputs) k (mod_below written (2 ^ inputs) (pow_pos inputs)) from)
      ∙ ap (λ n. bit_at n k) (div-add-mod' written (2 ^ inputs))

  -- below 2 to the n where both are
  pub letter_below : (n : ℕ) → inputs ≤ n → written < 2 ^ n → written / 2 ^ inputs * 2 ^ inputs + read % 2 ^ inputs < 2 ^ n
  letter_below n few small =
      let split : n - inputs + inputs ≡ n = omega arith in
      let high : written / 2 ^ inputs < 2 ^ (n - inputs) = shr_below written (n - inputs) inputs (subst (λ m. written < 2 ^ m) (sym split) small) in
      subst (λ m. written / 2 ^ inputs * 2 ^ inputs + read % 2 ^ inputs < 2 ^ m) split
      (subst (λ m. written / 2 ^ inputs * 2 ^ inputs + read % 2 ^ inputs < m) (pow_split (n - inputs))
      (mul-add-lt (written / 2 ^ inputs) (2 ^ inputs) (read % 2 ^ inputs) (2 ^ (n - inputs)) high (mod_below read (2 ^ inputs) (pow_pos inputs))))
    where
      pow_split : (j : ℕ) → 2 ^ inputs * 2 ^ j ≡ 2 ^ (j + inputs)
      pow_split j = mul_comm (2 ^ inputs) (2 ^ j) ∙ sym (pow-add 2 j inputs)

-- a signal of a shifted letter is that of the letter behind where it is shifted, else that of the letter here
pub has-shifted : (shift : Shift) (inputs : ℕ) (here behind : Letter) (k : ℕ) → has (shifted_letter shift inputs here behind).0 k ≡ has (cond (is_shifted shift inputs k) behind here).0 k
has-shifted Inputs inputs here behind k =
    elim (cases_lt k inputs) [
      | inl below ↦ ap (λ b. eqb b 1) (bit-read inputs behind.0 here.0 k below) ∙ ap (λ t. has (cond t behind here).0 k) (sym (lt-ltb k inputs below))
      | inr from ↦ ap (λ b. eqb b 1) (bit-written inputs behind.0 here.0 k from) ∙ ap (λ t. has (cond t behind here).0 k) (sym (le-ltb k inputs from))
    ]
has-shifted Outputs inputs here behind k =
    elim (cases_lt k inputs) [
      | inl below ↦ ap (λ b. eqb b 1) (bit-read inputs here.0 behind.0 k below) ∙ ap (λ t. has (cond (not t) behind here).0 k) (sym (lt-ltb k inputs below))
      | inr from ↦ ap (λ b. eqb b 1) (bit-written inputs here.0 behind.0 k from) ∙ ap (λ t. has (cond (not t) behind here).0 k) (sym (le-ltb k inputs from))
    ]

shifted-below : (shift : Shift) (inputs n : ℕ) (here behind : Letter) → inputs ≤ n → here.0 < 2 ^ n → behind.0 < 2 ^ n → (shifted_letter shift inputs here behind).0 < 2 ^ n
shifted-below Inputs inputs n here behind few h b = letter_below inputs behind.0 here.0 n few h
shifted-below Outputs inputs n here behind few h b = letter_below inputs here.0 behind.0 n few b

-- letters with the same signals are one
bit-from-has : (a b k : ℕ) → has a k ≡ has b k → bit_at a k ≡ bit_at b k
bit-from-has a b k e =
    let small_a : bit_at a k < 2 = bit_at-lt a k in
    let small_b : bit_at b k < 2 = bit_at-lt b k in
    elim (cases_eq (bit_at a k) 1) [
      | inl is ↦ is ∙ sym (eqb-true (bit_at b k) 1 (sym e ∙ eq-eqb (bit_at a k) 1 is))
      | inr isnt ↦
          elim (cases_eq (bit_at b k) 1) [
            | inl is ↦ absurd (isnt (eqb-true (bit_at a k) 1 (e ∙ eq-eqb (bit_at b k) 1 is)))
            | inr not_b ↦ omega (arith, isnt, not_b)
          ]
    ]

same_letter : (a b : Letter) → ((k : ℕ) → has a.0 k ≡ has b.0 k) → a ≡ b
same_letter a b each =
    let numbers : a.0 ≡ b.0 = same_from_bits a.0 b.0 (λ k. bit-from-has a.0 b.0 k (each k)) in
    ap (λ n. let letter : Letter = record { 0 = n } in letter) numbers

-- ---- lists of letters

module _ (shift : Shift) (inputs : ℕ) where
  pub length-shifted : (last : Letter) (letters : List Letter) → length (shifted_letters shift inputs last letters) ≡ length letters
  length-shifted last [] = refl
  length-shifted last (letter ∷ letters) = ap suc (length-shifted last letters)

  -- letters before others have the first of these behind them
  shifted-append : (last : Letter) (xs ys : List Letter)
      → shifted_letters shift inputs (get_or ys 0 last) xs ++ shifted_letters shift inputs last ys ≡ shifted_letters shift inputs last (xs ++ ys)
  shifted-append last [] ys = refl
  shifted-append last (x ∷ []) ys = refl
  shifted-append last (x ∷ y ∷ xs) ys = ap (λ zs. shifted_letter shift inputs x y ∷ zs) (shifted-append last (y ∷ xs) ys)

  shifted-at : (last : Letter) (letters : List Letter) (i : ℕ) (d : Letter) → i < length letters
      → get_or (shifted_letters shift inputs last letters) i d ≡ shifted_letter shift inputs (get_or letters i d) (get_or (letters ++ last ∷ []) (suc i) d)
  shifted-at last [] i d within = absurd (omega arith)
  shifted-at last (x ∷ []) zero d within = refl
  shifted-at last (x ∷ y ∷ letters) zero d within = refl
  shifted-at last (x ∷ letters) (suc i) d within = shifted-at last letters i d (omega arith)

  shifted-all-below : (n : ℕ) (last : Letter) (letters : List Letter) → inputs ≤ n → last.0 < 2 ^ n → All (λ letter. letter.0 < 2 ^ n) letters
      → All (λ letter. letter.0 < 2 ^ n) (shifted_letters shift inputs last letters)
  shifted-all-below n last [] few small all = All-nil (λ letter. letter.0 < 2 ^ n)
  shifted-all-below n last (x ∷ letters) few small all =
      All-cons (λ letter. letter.0 < 2 ^ n) (shifted_letter shift inputs x (get_or letters 0 last)) (shifted_letters shift inputs last letters)
      (shifted-below shift inputs n x (get_or letters 0 last) few (all 0 x (omega arith)) (first letters rest))
      (shifted-all-below n last letters few small rest)
    where
      rest : All (λ letter. letter.0 < 2 ^ n) letters
      rest k d lt = all (suc k) d (omega arith)

      first : (ls : List Letter) → All (λ letter. letter.0 < 2 ^ n) ls → (get_or ls 0 last).0 < 2 ^ n
      first [] h = small
      first (l ∷ ls) h = h 0 l (omega arith)

-- ---- the shifted word

module _ (shift : Shift) (inputs : ℕ) (w : Word) where
  pub stem-shifted : length (shifted_word shift inputs w).stem ≡ length w.stem
  stem-shifted = length-shifted shift inputs (ring_start w) w.stem

  pub ring-shifted : length (shifted_word shift inputs w).ring ≡ length w.ring
  ring-shifted = length-shifted shift inputs (ring_start w) w.ring

  pub len-shifted : lasso_len (shifted_word shift inputs w) ≡ lasso_len w
  len-shifted = let s = stem-shifted in let r = ring-shifted in omega arith

  pub has_ring-shifted : HasRing w → HasRing (shifted_word shift inputs w)
  has_ring-shifted ring = let r = ring-shifted in omega arith

  pub next-shifted : (i : ℕ) → next (shifted_word shift inputs w) i ≡ next w i
  next-shifted i = ap (λ n. cond (eqb (i + 1) n) (length (shifted_word shift inputs w).stem) (i + 1)) len-shifted ∙ ap (λ n. cond (eqb (i + 1) (lasso_len w)) n (i + 1)) stem-shifted

  pub after-shifted : (j i : ℕ) → after (shifted_word shift inputs w) i j ≡ after w i j
  after-shifted zero i = refl
  after-shifted (suc j) i = ap (λ n. after (shifted_word shift inputs w) n j) (next-shifted i) ∙ after-shifted j (next w i)

  joined : (shifted_word shift inputs w).stem ++ (shifted_word shift inputs w).ring ≡ shifted_letters shift inputs (ring_start w) (w.stem ++ w.ring)
  joined =
      ap (λ first. shifted_letters shift inputs first w.stem ++ (shifted_word shift inputs w).ring) (start w.ring)
      ∙ shifted-append shift inputs (ring_start w) w.stem w.ring
    where
      start : (ls : List Letter) → get_or ls 0 no_signals ≡ get_or ls 0 (get_or ls 0 no_signals)
      start [] = refl
      start (l ∷ ls) = refl

  letter_behind : (i : ℕ) → i < lasso_len w → get_or ((w.stem ++ w.ring) ++ ring_start w ∷ []) (suc i) no_signals ≡ letter_at w (next w i)
  letter_behind i within =
      let long : length (w.stem ++ w.ring) ≡ length w.stem + length w.ring = length-append w.stem w.ring in
      elim (cases_eq (i + 1) (lasso_len w)) [
        | inl last ↦
            let end : length (w.stem ++ w.ring) ≡ suc i = omega arith in
            let none : length w.stem - length w.stem ≡ 0 = omega arith in
            get_or_push (w.stem ++ w.ring) (ring_start w) no_signals (suc i) end
            ∙ ap (λ n. get_or w.ring n no_signals) (sym none)
            ∙ sym (get_or-append_right w.stem w.ring (length w.stem) no_signals (omega arith))
            ∙ ap (letter_at w) (sym (next-last w i last))
        | inr inner ↦
            let e : suc i ≡ i + 1 = omega arith in
            get_or_append_left (w.stem ++ w.ring) (ring_start w ∷ []) no_signals (suc i) (omega (arith, inner))
            ∙ ap (letter_at w) (e ∙ sym (next-inner w i inner))
      ]

  pub letter-shifted : (i : ℕ) → i < lasso_len w → letter_at (shifted_word shift inputs w) i ≡ shifted_letter shift inputs (letter_at w i) (letter_at w (next w i))
  letter-shifted i within =
      let long : length (w.stem ++ w.ring) ≡ length w.stem + length w.ring = length-append w.stem w.ring in
      ap (λ letters. get_or letters i no_signals) joined
      ∙ shifted-at shift inputs (ring_start w) (w.stem ++ w.ring) i no_signals (omega arith)
      ∙ ap (shifted_letter shift inputs (letter_at w i)) (letter_behind i within)

  pub nth-shifted : HasRing w → (j : ℕ) → nth_letter (shifted_word shift inputs w) j ≡ shifted_letter shift inputs (nth_letter w j) (nth_letter w (suc j))
  nth-shifted ring j =
      ap (letter_at (shifted_word shift inputs w)) (after-shifted j 0)
      ∙ letter-shifted (after w 0 j) (after_within w 0 j ring (first_position w ring))
      ∙ ap (λ n. shifted_letter shift inputs (nth_letter w j) (letter_at w n)) (sym (after-suc w 0 j))

  pub is_shifted_word : HasRing w → IsShiftedWord shift inputs w (shifted_word shift inputs w)
  is_shifted_word ring = record {
    signals = λ j k.
        ap (λ letter. has letter.0 k) (nth-shifted ring j) ∙ has-shifted shift inputs (nth_letter w j) (nth_letter w (suc j)) k
        ∙ chosen (is_shifted shift inputs k) j k;
  }
    where
      chosen : (b : Bool) (j k : ℕ) → has (cond b (nth_letter w (suc j)) (nth_letter w j)).0 k ≡ has (nth_letter w (cond b (suc j) j)).0 k
      chosen true j k = refl
      chosen false j k = refl

  pub only_shifted : HasRing w → (v : Word) → IsShiftedWord shift inputs w v → SameWord v (shifted_word shift inputs w)
  only_shifted ring v is = record {
    letters = λ j. same_letter (nth_letter v j) (nth_letter (shifted_word shift inputs w) j) (λ k. is.signals j k ∙ sym ((is_shifted_word ring).signals j k));
  }

  over_shifted : (n : ℕ) → inputs ≤ n → IsLassoOver n w → IsLassoOver n (shifted_word shift inputs w)
  over_shifted n few over = record {
    ring = has_ring-shifted over.ring;
    stem_letters = shifted-all-below shift inputs n (ring_start w) w.stem few start over.stem_letters;
    ring_letters = shifted-all-below shift inputs n (ring_start w) w.ring few start over.ring_letters;
  }
    where
      start : (ring_start w).0 < 2 ^ n
      start = over.ring_letters 0 no_signals over.ring

-- which word it is, goes by the infinite word alone
same_shifted : (shift : Shift) (inputs : ℕ) (v w : Word) → HasRing v → HasRing w → SameWord v w → SameWord (shifted_word shift inputs v) (shifted_word shift inputs w)
same_shifted shift inputs v w ring_v ring_w same = record {
  letters = λ j.
      nth-shifted shift inputs v ring_v j
      ∙ ap (λ letter. shifted_letter shift inputs letter (nth_letter v (suc j))) (same.letters j)
      ∙ ap (shifted_letter shift inputs (nth_letter w j)) (same.letters (suc j))
      ∙ sym (nth-shifted shift inputs w ring_w j);
}

pub shifted_words_are_words : ShiftedWordsAreWords
shifted_words_are_words = record {
  stem = stem-shifted;
  ring = ring-shifted;
  over = λ shift inputs n w. over_shifted shift inputs w n;
  shifted = is_shifted_word;
  only = λ shift inputs w v ring. only_shifted shift inputs w ring v;
  same = same_shifted;
}
