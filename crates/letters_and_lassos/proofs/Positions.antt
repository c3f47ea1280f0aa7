use Rattle.std.proofs.Common.{◌≡◌, ℕ, zero, suc, ◌+◌, ◌-◌, ◌^◌, ◌<◌, ◌≤◌, inl, inr, eqb, length, List, ◌++◌, get_or, refl, sym, ap, ◌∙◌, arith, zero-add}
use Rattle.std.specs.Prelude.{All}
use Rattle.std.proofs.lemmas.Bool.{cond-true, cond-false, eq-eqb, ne_eqb, cases_eq, cases_lt}
use Rattle.std.proofs.lemmas.List.{get_or_past}
use Rattle.std.proofs.lemmas.List.Elements.{All-append}
use Rattle.std.proofs.lemmas.Nat.{pow_pos}
use Rattle.letters_and_lassos.specs.declared.letters.Letter.{Letter}
use Rattle.letters_and_lassos.specs.Word.{Word, HasRing, IsLassoOver, SameFuture, lasso_len, next, after, letter_at, no_signals}
use Rattle.letters_and_lassos.specs.Laws.{StepsStayWithin, StepsAddUp, FuturesShift, LettersStayOver}

-- after the last position stands the ring's first
pub next-last : (w : Word) (i : ℕ) → i + 1 ≡ lasso_len w → next w i ≡ length w.stem
next-last w i e = cond-true (eqb (i + 1) (lasso_len w)) (length w.stem) (i + 1) (eq-eqb (i + 1) (lasso_len w) e)

-- after any other position stands the following one
pub next-inner : (w : Word) (i : ℕ) → (i + 1 ≡ lasso_len w → ⊥) → next w i ≡ i + 1
next-inner w i e = cond-false (eqb (i + 1) (lasso_len w)) (length w.stem) (i + 1) (ne_eqb (i + 1) (lasso_len w) e)

pub next_within : (w : Word) (i : ℕ) → HasRing w → i < lasso_len w → next w i < lasso_len w
next_within w i ring h =
    elim (cases_eq (i + 1) (lasso_len w)) [
      | inl e ↦ rw (next-last w i e) (omega arith)
      | inr ne ↦ rw (next-inner w i ne) (let apart : i + 1 ≡ lasso_len w → ⊥ = ne in omega arith)
    ]

pub after_within : (w : Word) (i j : ℕ) → HasRing w → i < lasso_len w → after w i j < lasso_len w
after_within w i zero ring h = h
after_within w i (suc j) ring h = after_within w (next w i) j ring (next_within w i ring h)

pub after-add : (w : Word) (i j k : ℕ) → after w i (j + k) ≡ after w (after w i j) k
after-add w i zero k = ap (after w i) (zero-add k)
after-add w i (suc j) k = let e : suc j + k ≡ suc (j + k) = omega arith in ap (after w i) e ∙ after-add w (next w i) j k

pub after-suc : (w : Word) (i j : ℕ) → after w i (suc j) ≡ next w (after w i j)
after-suc w i zero = refl
after-suc w i (suc j) = after-suc w (next w i) j

-- up to the last position steps count on
pub after_forward : (w : Word) (i j : ℕ) → i + j < lasso_len w → after w i j ≡ i + j
after_forward w i zero h = omega arith
after_forward w i (suc j) h =
    let here : after w i j ≡ i + j = after_forward w i j (omega arith) in
    let inner : i + j + 1 ≡ lasso_len w → ⊥ = λ e. omega arith in
    let e : i + j + 1 ≡ i + suc j = omega arith in
    after-suc w i j ∙ ap (next w) here ∙ next-inner w (i + j) inner ∙ e

pub after-own : (w : Word) (j : ℕ) → j < lasso_len w → after w 0 j ≡ j
after-own w j h = let e : 0 + j ≡ j = zero-add j in after_forward w 0 j (rw e h) ∙ e

-- from a position the steps that are left lead to where the ring begins
pub after_to_end : (w : Word) (i j : ℕ) → HasRing w → i + suc j ≡ lasso_len w → after w i (suc j) ≡ length w.stem
after_to_end w i j ring e =
    let last : i + j + 1 ≡ lasso_len w = omega arith in
    after-suc w i j ∙ ap (next w) (after_forward w i j (omega arith)) ∙ next-last w (i + j) last

pub after_once_through : (w : Word) → HasRing w → after w 0 (lasso_len w) ≡ length w.stem
after_once_through w ring =
    let m : ℕ = lasso_len w - 1 in
    let e : suc m ≡ lasso_len w = omega arith in
    rw (← e) (after_to_end w 0 m ring (omega arith))

pub after_round : (w : Word) (i : ℕ) → HasRing w → length w.stem ≤ i → i < lasso_len w → after w i (length w.ring) ≡ i
after_round w i ring from within =
    let m : ℕ = lasso_len w - i - 1 in
    let k : ℕ = i - length w.stem in
    let split : length w.ring ≡ suc m + k = omega arith in
    let to_end : i + suc m ≡ lasso_len w = omega arith in
    let back : length w.stem + k ≡ i = omega arith in
    ap (after w i) split ∙ after-add w i (suc m) k ∙ ap (λ p. after w p k) (after_to_end w i m ring to_end)
    ∙ after_forward w (length w.stem) k (omega arith) ∙ back

pub steps_stay_within : StepsStayWithin
steps_stay_within = record { next_within = next_within; after_within = after_within }

pub steps_add_up : StepsAddUp
steps_add_up = record {
  added = after-add;
  one_more = after-suc;
  own_number = after-own;
  once_through = after_once_through;
  round_the_ring = after_round;
}

-- futures
pub SameFuture-after : (v w : Word) (i k j : ℕ) → SameFuture v i w k → SameFuture v (after v i j) w (after w k j)
SameFuture-after v w i k j same = record {
  letters = λ n. ap (letter_at v) (sym (after-add v i j n)) ∙ same.letters (j + n) ∙ ap (letter_at w) (after-add w k j n);
}

pub futures_shift : FuturesShift
futures_shift = record {
  now = λ v w i k same. same.letters 0;
  later = SameFuture-after;
  of_word = λ v w j same. SameFuture-after v w 0 0 j (record { letters = same.letters });
}

-- letters below a bound
AllBelow-get_or : (n : ℕ) (letters : List Letter) (i : ℕ) → All (λ letter. letter.0 < n) letters → 0 < n → (get_or letters i no_signals).0 < n
AllBelow-get_or n letters i all pos =
    elim (cases_lt i (length letters)) [
      | inl within ↦ all i no_signals within
      | inr past ↦ rw (get_or_past letters i no_signals past) pos
    ]

pub letter_below : (n : ℕ) (w : Word) (i : ℕ) → IsLassoOver n w → (letter_at w i).0 < 2 ^ n
letter_below n w i over =
    AllBelow-get_or (2 ^ n) (w.stem ++ w.ring) i (All-append (λ letter. letter.0 < 2 ^ n) w.stem w.ring over.stem_letters over.ring_letters) (pow_pos n)

pub letters_stay_over : LettersStayOver
letters_stay_over = record {
  letters = letter_below;
  unrolled = λ n w over. record {
    ring = over.ring;
    stem_letters = All-append (λ letter. letter.0 < 2 ^ n) w.stem w.ring over.stem_letters over.ring_letters;
    ring_letters = over.ring_letters;
  };
}

-- a lasso has a first position
pub first_position : (w : Word) → HasRing w → 0 < lasso_len w
first_position w ring = omega arith
