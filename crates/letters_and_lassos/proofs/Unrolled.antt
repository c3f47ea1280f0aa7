use Rattle.std.proofs.Common.{◌≡◌, ℕ, zero, suc, ◌+◌, ◌-◌, ◌<◌, ◌≤◌, ◌⊎◌, inl, inr, length, ◌++◌, get_or, refl, sym, ap, subst, ◌∙◌, arith}
use Rattle.std.proofs.lemmas.Bool.{cases_eq}
use Rattle.std.proofs.lemmas.List.{length-append, get_or_append_left}
use Rattle.std.proofs.Math.Seq.{get_or-append_right}
use Rattle.letters_and_lassos.specs.Word.{Word, HasRing, SameWord, lasso_len, next, after, letter_at, no_signals, unrolled_of}
use Rattle.letters_and_lassos.specs.Laws.{UnrollingKeepsTheWord}
use Rattle.letters_and_lassos.proofs.Positions.{next-last, next-inner}

-- position p of the unrolled lasso stands for position q: the same one, or one ring further on
abbrev Folds : Word → ℕ → ℕ → Type 0
Folds w p q = ((p ≡ q) × (q < lasso_len w)) ⊎ ((q + length w.ring ≡ p) × (length w.stem ≤ q) × (q < lasso_len w))

len_unrolled : (w : Word) → lasso_len (unrolled_of w) ≡ lasso_len w + length w.ring
len_unrolled w = ap (λ n. n + length w.ring) (length-append w.stem w.ring)

Folds-letter : (w : Word) (p q : ℕ) → Folds w p q → letter_at (unrolled_of w) p ≡ letter_at w q
Folds-letter w p q (inl (e, within)) =
    ap (letter_at (unrolled_of w)) e
    ∙ get_or_append_left (w.stem ++ w.ring) w.ring no_signals q (rw (length-append w.stem w.ring) within)
Folds-letter w p q (inr (e, from, within)) =
    let long : length (w.stem ++ w.ring) ≡ length w.stem + length w.ring = length-append w.stem w.ring in
    let far : length (w.stem ++ w.ring) ≤ p = omega arith in
    let same : p - length (w.stem ++ w.ring) ≡ q - length w.stem = omega arith in
    get_or-append_right (w.stem ++ w.ring) w.ring p no_signals far
    ∙ ap (λ i. get_or w.ring i no_signals) same
    ∙ sym (get_or-append_right w.stem w.ring q no_signals from)

Folds-next : (w : Word) (p q : ℕ) → HasRing w → Folds w p q → Folds w (next (unrolled_of w) p) (next w q)
Folds-next w p q ring (inl (e, within)) =
    let len : lasso_len (unrolled_of w) ≡ lasso_len w + length w.ring = len_unrolled w in
    let on : next (unrolled_of w) p ≡ p + 1 = next-inner (unrolled_of w) p (λ end. omega arith) in
    elim (cases_eq (q + 1) (lasso_len w)) [
      | inl last ↦ rw (on, next-last w q last) (inr (omega arith, omega arith, omega arith))
      | inr inner ↦ rw (on, next-inner w q inner) (inl (omega arith, omega (arith, inner)))
    ]
Folds-next w p q ring (inr (e, from, within)) =
    let len : lasso_len (unrolled_of w) ≡ lasso_len w + length w.ring = len_unrolled w in
    let long : length (w.stem ++ w.ring) ≡ length w.stem + length w.ring = length-append w.stem w.ring in
    elim (cases_eq (q + 1) (lasso_len w)) [
      | inl last ↦
          let end : p + 1 ≡ lasso_len (unrolled_of w) = omega arith in
          rw (next-last (unrolled_of w) p end, next-last w q last) (inr (omega arith, omega arith, omega arith))
      | inr inner ↦
          let on : next (unrolled_of w) p ≡ p + 1 = next-inner (unrolled_of w) p (λ end. inner (omega arith)) in
          rw (on, next-inner w q inner) (inr (omega arith, omega arith, omega (arith, inner)))
    ]

Folds-after : (w : Word) (p q j : ℕ) → HasRing w → Folds w p q → Folds w (after (unrolled_of w) p j) (after w q j)
Folds-after w p q zero ring folds = folds
Folds-after w p q (suc j) ring folds = Folds-after w (next (unrolled_of w) p) (next w q) j ring (Folds-next w p q ring folds)

pub SameWord-unrolled_of : (w : Word) → HasRing w → SameWord (unrolled_of w) w
SameWord-unrolled_of w ring = record {
  letters = λ j.
      Folds-letter w (after (unrolled_of w) 0 j) (after w 0 j) (Folds-after w 0 0 j ring (inl (refl, omega arith)));
}

pub unrolling_keeps_the_word : UnrollingKeepsTheWord
unrolling_keeps_the_word zero w ring = record { letters = λ j. refl }
unrolling_keeps_the_word (suc n) w ring = record {
  letters = λ j. (unrolling_keeps_the_word n (unrolled_of w) ring).letters j ∙ (SameWord-unrolled_of w ring).letters j;
}

pub SameWord-at : (v w : Word) → v ≡ unrolled_of w → HasRing w → SameWord v w
SameWord-at v w e ring = subst (λ u. SameWord u w) (sym e) (SameWord-unrolled_of w ring)
