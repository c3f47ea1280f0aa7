-- Truth of shifted forms.
use Rattle.std.proofs.Common.{◌≡◌, ℕ, ◌<◌, Bool, true, false, cond, refl, sym, ap, ◌∙◌, arith}
use Rattle.std.specs.Prelude.{not}
use Rattle.letters_and_lassos.specs.Signals.{has}
use Rattle.letters_and_lassos.specs.Word.{Word, HasRing, lasso_len, next, after, letter_at}
use Rattle.letters_and_lassos.proofs.Positions.{next_within, after_within}
use Rattle.ltl_formula.specs.Tree.{Tree}
use Rattle.ltl_formula.specs.Tree.Tree.{truth, falsity, signal, negation, next_time, finally, globally, conjunction, disjunction, implication, equivalence, until, release, weak_until}
use Rattle.ltl_formula.specs.Truth.{until_at, release_at, holds}
use Rattle.ltl_formula.proofs.Futures.{until_at-agree, release_at-agree, holds-word}
use Rattle.kind_conversion.specs.declared.shifts.Shift.{Shift}
use Rattle.kind_conversion.specs.Shifts.{is_shifted}
use Rattle.kind_conversion.specs.ShiftedWord.{shifted_word}
use Rattle.kind_conversion.specs.ShiftedForm.{shifted_form}
use Rattle.kind_conversion.specs.Laws.{ShiftedFormsSay}
use Rattle.kind_conversion.proofs.ShiftedLetters.{has-shifted, letter-shifted, len-shifted, has_ring-shifted, next-shifted, after-shifted, only_shifted}

module _ (shift : Shift) (inputs : ℕ) (w : Word) (ring : HasRing w) where
  abbrev v : Word
  v = shifted_word shift inputs w

  abbrev form : Tree → Tree
  form f = shifted_form shift inputs f

  ring_v : HasRing v
  ring_v = has_ring-shifted shift inputs w ring

  within_v : (i : ℕ) → i < lasso_len w → i < lasso_len v
  within_v i within = let e = len-shifted shift inputs w in omega arith

  -- agreement at each position is agreement along the way
  along : (f : Tree) (i : ℕ) → i < lasso_len w → ((p : ℕ) → p < lasso_len w → holds w (form f) p ≡ holds v f p) → (j : ℕ) → holds w (form f) (after w i j) ≡ holds v f (after v i j)
  along f i within each j = each (after w i j) (after_within w i j ring within) ∙ ap (holds v f) (sym (after-shifted shift inputs w j i))

  until-shifted : (a b a' b' : ℕ → Bool) (i : ℕ) → i < lasso_len w → ((j : ℕ) → a (after w i j) ≡ a' (after v i j)) → ((j : ℕ) → b (after w i j) ≡ b' (after v i j))
      → until_at w a b i ≡ until_at v a' b' i
  until-shifted a b a' b' i within = until_at-agree w v i i ring ring_v within (within_v i within) a b a' b'

  release-shifted : (a b a' b' : ℕ → Bool) (i : ℕ) → i < lasso_len w → ((j : ℕ) → a (after w i j) ≡ a' (after v i j)) → ((j : ℕ) → b (after w i j) ≡ b' (after v i j))
      → release_at w a b i ≡ release_at v a' b' i
  release-shifted a b a' b' i within = release_at-agree w v i i ring ring_v within (within_v i within) a b a' b'

  signal-form : (b : Bool) (s i : ℕ) → holds w (cond b (next_time (signal s)) (signal s)) i ≡ has (cond b (letter_at w (next w i)) (letter_at w i)).0 s
  signal-form true s i = refl
  signal-form false s i = refl

  holds-form : (f : Tree) (i : ℕ) → i < lasso_len w → holds w (form f) i ≡ holds v f i
  holds-form truth i within = refl
  holds-form falsity i within = refl
  holds-form (signal s) i within =
      signal-form (is_shifted shift inputs s) s i
      ∙ sym (has-shifted shift inputs (letter_at w i) (letter_at w (next w i)) s)
      ∙ ap (λ letter. has letter.0 s) (sym (letter-shifted shift inputs w i within))
  holds-form (negation a) i within = ap not (holds-form a i within)
  holds-form (next_time a) i within = holds-form a (next w i) (next_within w i ring within) ∙ ap (holds v a) (sym (next-shifted shift inputs w i))
  holds-form (finally a) i within =
      until-shifted (λ p. true) (holds w (form a)) (λ p. true) (holds v a) i within (λ j. refl) (along a i within (holds-form a))
  holds-form (globally a) i within =
      release-shifted (λ p. false) (holds w (form a)) (λ p. false) (holds v a) i within (λ j. refl) (along a i within (holds-form a))
  holds-form (conjunction a b) i within =
      let x : holds w (form a) i ≡ holds v a i = holds-form a i within in
      let y : holds w (form b) i ≡ holds v b i = holds-form b i within in cc
  holds-form (disjunction a b) i within =
      let x : holds w (form a) i ≡ holds v a i = holds-form a i within in
      let y : holds w (form b) i ≡ holds v b i = holds-form b i within in cc
  holds-form (implication a b) i within =
      let x : holds w (form a) i ≡ holds v a i = holds-form a i within in
      let y : holds w (form b) i ≡ holds v b i = holds-form b i within in cc
  holds-form (equivalence a b) i within =
      let x : holds w (form a) i ≡ holds v a i = holds-form a i within in
      let y : holds w (form b) i ≡ holds v b i = holds-form b i within in cc
  holds-form (until a b) i within =
      until-shifted (holds w (form a)) (holds w (form b)) (holds v a) (holds v b) i within (along a i within (holds-form a)) (along b i within (holds-form b))
  holds-form (release a b) i within =
      release-shifted (holds w (form a)) (holds w (form b)) (holds v a) (holds v b) i within (along a i within (holds-form a)) (along b i within (holds-form b))
  holds-form (weak_until a b) i within =
      let x : until_at w (holds w (form a)) (holds w (form b)) i ≡ until_at v (holds v a) (holds v b) i =
      until-shifted (holds w (form a)) (holds w (form b)) (holds v a) (holds v b) i within (along a i within (holds-form a)) (along b i within (holds-form b)) in
      let y : release_at w (λ p. false) (holds w (form a)) i ≡ release_at v (λ p. false) (holds v a) i =
      release-shifted (λ p. false) (holds w (form a)) (λ p. false) (holds v a) i within (λ j. refl) (along a i within (holds-form a)) in cc

pub shifted_forms_say : ShiftedFormsSay
shifted_forms_say shift inputs f = record {
  at_each = λ w i ring. holds-form shift inputs w ring f i;
  of_word = λ w u ring ring_u is.
      holds-form shift inputs w ring f 0 (let r : HasRing w = ring in omega arith)
      ∙ sym (holds-word u (shifted_word shift inputs w) ring_u (has_ring-shifted shift inputs w ring) (only_shifted shift inputs w ring u is) f);
}
