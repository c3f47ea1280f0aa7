use Rattle.std.proofs.Common.{◌≡◌, ℕ, zero, suc, ◌<◌, Bool, true, false, inl, inr, refl, sym, ap, ◌∙◌}
use Rattle.std.specs.Prelude.{not, IsTrue, ◌↔◌}
use Rattle.std.proofs.lemmas.Bool.{not-true, cases_Bool, true≢false}
use Rattle.std.specs.Cmp.{both_ways}
use Rattle.letters_and_lassos.specs.Word.{Word, HasRing, SameWord, SameFuture, lasso_len, next, after, unrolled_of, unrolled_times}
use Rattle.letters_and_lassos.specs.Signals.{has}
use Rattle.letters_and_lassos.proofs.Positions.{next_within, after_within, SameFuture-after, first_position}
use Rattle.letters_and_lassos.proofs.Unrolled.{unrolling_keeps_the_word}
use Rattle.ltl_formula.specs.Tree.{Tree}
use Rattle.ltl_formula.specs.Tree.Tree.{truth, falsity, signal, negation, next_time, finally, globally, conjunction, disjunction, implication, equivalence, until, release, weak_until}
use Rattle.ltl_formula.specs.Truth.{until_at, release_at, holds}
use Rattle.ltl_formula.specs.Laws.{Comes, OperatorsMean, OperatorsUnfold, TruthIsOfTheFuture}
use Rattle.ltl_formula.proofs.Ahead.{until_at-from, until_at-gives, until_at-unfold, release_at-unfold}

-- two positions whose parts agree along the way agree on until and release
module _ (v w : Word) (i k : ℕ) (ring_v : HasRing v) (ring_w : HasRing w) (within_v : i < lasso_len v) (within_w : k < lasso_len w) where
  pub until_at-agree : (a b a' b' : ℕ → Bool)
      → ((j : ℕ) → a (after v i j) ≡ a' (after w k j)) → ((j : ℕ) → b (after v i j) ≡ b' (after w k j))
      → until_at v a b i ≡ until_at w a' b' k
  until_at-agree a b a' b' same_a same_b = both_ways _ _ to from
    where
      to : until_at v a b i ≡ true → until_at w a' b' k ≡ true
      to h =
          let found : Comes v a b i = until_at-gives v a b i h in
          until_at-from w a' b' k ring_w within_w (
            found.0,
            record {
              comes = sym (same_b found.0) ∙ found.1.comes;
              before = λ j earlier. sym (same_a j) ∙ found.1.before j earlier;
            },
          )

      from : until_at w a' b' k ≡ true → until_at v a b i ≡ true
      from h =
          let found : Comes w a' b' k = until_at-gives w a' b' k h in
          until_at-from v a b i ring_v within_v (
            found.0,
            record {
              comes = same_b found.0 ∙ found.1.comes;
              before = λ j earlier. same_a j ∙ found.1.before j earlier;
            },
          )

  pub release_at-agree : (a b a' b' : ℕ → Bool)
      → ((j : ℕ) → a (after v i j) ≡ a' (after w k j)) → ((j : ℕ) → b (after v i j) ≡ b' (after w k j))
      → release_at v a b i ≡ release_at w a' b' k
  release_at-agree a b a' b' same_a same_b =
      ap not (until_at-agree (λ p. not (a p)) (λ p. not (b p)) (λ p. not (a' p)) (λ p. not (b' p)) (λ j. ap not (same_a j)) (λ j. ap not (same_b j)))

-- agreement at positions of one future is agreement after equally many steps
holds-along : (v w : Word) (ring_v : HasRing v) (ring_w : HasRing w) (i k : ℕ) → i < lasso_len v → k < lasso_len w → SameFuture v i w k
    → (f : Tree) → ((p q : ℕ) → p < lasso_len v → q < lasso_len w → SameFuture v p w q → holds v f p ≡ holds w f q)
    → (j : ℕ) → holds v f (after v i j) ≡ holds w f (after w k j)
holds-along v w ring_v ring_w i k within_v within_w same f each j =
    each (after v i j) (after w k j) (after_within v i j ring_v within_v) (after_within w k j ring_w within_w) (SameFuture-after v w i k j same)

pub holds-future : (v w : Word) → HasRing v → HasRing w → (f : Tree) (i k : ℕ) → i < lasso_len v → k < lasso_len w → SameFuture v i w k → holds v f i ≡ holds w f k
holds-future v w rv rw truth i k hi hk same = refl
holds-future v w rv rw falsity i k hi hk same = refl
holds-future v w rv rw (signal s) i k hi hk same = ap (λ letter. has letter.0 s) (same.letters 0)
holds-future v w rv rw (negation a) i k hi hk same = ap not (holds-future v w rv rw a i k hi hk same)
holds-future v w rv rw (next_time a) i k hi hk same =
    holds-future v w rv rw a (next v i) (next w k) (next_within v i rv hi) (next_within w k rw hk) (SameFuture-after v w i k 1 same)
holds-future v w rv rw (finally a) i k hi hk same =
    until_at-agree v w i k rv rw hi hk (λ p. true) (holds v a) (λ p. true) (holds w a) (λ j. refl) (holds-along v w rv rw i k hi hk same a (holds-future v w rv rw a))
holds-future v w rv rw (globally a) i k hi hk same =
    release_at-agree v w i k rv rw hi hk (λ p. false) (holds v a) (λ p. false) (holds w a) (λ j. refl) (holds-along v w rv rw i k hi hk same a (holds-future v w rv rw a))
holds-future v w rv rw (conjunction a b) i k hi hk same =
    let ea : holds v a i ≡ holds w a k = holds-future v w rv rw a i k hi hk same in
    let eb : holds v b i ≡ holds w b k = holds-future v w rv rw b i k hi hk same in cc
holds-future v w rv rw (disjunction a b) i k hi hk same =
    let ea : holds v a i ≡ holds w a k = holds-future v w rv rw a i k hi hk same in
    let eb : holds v b i ≡ holds w b k = holds-future v w rv rw b i k hi hk same in cc
holds-future v w rv rw (implication a b) i k hi hk same =
    let ea : holds v a i ≡ holds w a k = holds-future v w rv rw a i k hi hk same in
    let eb : holds v b i ≡ holds w b k = holds-future v w rv rw b i k hi hk same in cc
holds-future v w rv rw (equivalence a b) i k hi hk same =
    let ea : holds v a i ≡ holds w a k = holds-future v w rv rw a i k hi hk same in
    let eb : holds v b i ≡ holds w b k = holds-future v w rv rw b i k hi hk same in cc
holds-future v w rv rw (until a b) i k hi hk same =
    until_at-agree v w i k rv rw hi hk (holds v a) (holds v b) (holds w a) (holds w b)
    (holds-along v w rv rw i k hi hk same a (holds-future v w rv rw a)) (holds-along v w rv rw i k hi hk same b (holds-future v w rv rw b))
holds-future v w rv rw (release a b) i k hi hk same =
    release_at-agree v w i k rv rw hi hk (holds v a) (holds v b) (holds w a) (holds w b)
    (holds-along v w rv rw i k hi hk same a (holds-future v w rv rw a)) (holds-along v w rv rw i k hi hk same b (holds-future v w rv rw b))
holds-future v w rv rw (weak_until a b) i k hi hk same =
    let ea : until_at v (holds v a) (holds v b) i ≡ until_at w (holds w a) (holds w b) k =
    until_at-agree v w i k rv rw hi hk (holds v a) (holds v b) (holds w a) (holds w b)
    (holds-along v w rv rw i k hi hk same a (holds-future v w rv rw a)) (holds-along v w rv rw i k hi hk same b (holds-future v w rv rw b)) in
    let eb : release_at v (λ p. false) (holds v a) i ≡ release_at w (λ p. false) (holds w a) k =
    release_at-agree v w i k rv rw hi hk (λ p. false) (holds v a) (λ p. false) (holds w a) (λ j. refl)
    (holds-along v w rv rw i k hi hk same a (holds-future v w rv rw a)) in cc

pub holds-word : (v w : Word) → HasRing v → HasRing w → SameWord v w → (f : Tree) → holds v f 0 ≡ holds w f 0
holds-word v w rv rw same f = holds-future v w rv rw f 0 0 (first_position v rv) (first_position w rw) (record { letters = same.letters })

ring_unrolled_times : (n : ℕ) (w : Word) → HasRing w → HasRing (unrolled_times n w)
ring_unrolled_times zero w ring = ring
ring_unrolled_times (suc n) w ring = ring_unrolled_times n (unrolled_of w) ring

pub truth_is_of_the_future : TruthIsOfTheFuture
truth_is_of_the_future = record {
  future = λ v w i k rv rw hi hk same f. holds-future v w rv rw f i k hi hk same;
  word = holds-word;
  unrolled = λ n w ring f. holds-word (unrolled_times n w) w (ring_unrolled_times n w ring) ring (unrolling_keeps_the_word n w ring) f;
}

pub operators_unfold : OperatorsUnfold
operators_unfold = record {
  until_unfolds = λ w a b i ring within. until_at-unfold w (holds w a) (holds w b) i ring within;
  release_unfolds = λ w a b i ring within. release_at-unfold w (holds w a) (holds w b) i ring within;
}

-- b comes at some time, and nothing is asked until then
pub finally-means : (w : Word) (a : Tree) (i : ℕ) → HasRing w → i < lasso_len w → IsTrue (holds w (finally a) i) ↔ ((j : ℕ) × IsTrue (holds w a (after w i j)))
finally-means w a i ring within = (
  λ h. let found : Comes w (λ p. true) (holds w a) i = until_at-gives w (λ p. true) (holds w a) i h in (found.0, found.1.comes),
  λ (j, h). until_at-from w (λ p. true) (holds w a) i ring within (j, record { comes = h; before = λ k earlier. refl }),
)

pub globally-means : (w : Word) (a : Tree) (i : ℕ) → HasRing w → i < lasso_len w → IsTrue (holds w (globally a) i) ↔ ((j : ℕ) → IsTrue (holds w a (after w i j)))
globally-means w a i ring within = (to, from)
  where
    bad : ℕ → Bool
    bad p = not (holds w a p)

    to : IsTrue (holds w (globally a) i) → (j : ℕ) → IsTrue (holds w a (after w i j))
    to h j =
        elim (cases_Bool (holds w a (after w i j))) [
          | inl is ↦ is
          | inr isnt ↦
              let fails : until_at w (λ k. not false) (λ p. not (holds w a p)) i ≡ true =
              until_at-from w (λ k. not false) (λ p. not (holds w a p)) i ring within
              (j, record { comes = ap not isnt; before = λ k earlier. refl }) in
              absurd (true≢false (sym fails ∙ not-true (until_at w (λ k. not false) (λ p. not (holds w a p)) i) h))
        ]

    from : ((j : ℕ) → IsTrue (holds w a (after w i j))) → IsTrue (holds w (globally a) i)
    from each =
        elim (cases_Bool (until_at w (λ k. not false) (λ p. not (holds w a p)) i)) [
          | inr isnt ↦ ap not isnt
          | inl is ↦
              let found : Comes w (λ k. not false) (λ p. not (holds w a p)) i = until_at-gives w (λ k. not false) (λ p. not (holds w a p)) i is in
              absurd (true≢false (sym (each found.0) ∙ not-true (holds w a (after w i found.0)) found.1.comes))
        ]

pub operators_mean : OperatorsMean
operators_mean = record {
  until_means = λ w a b i ring within. (until_at-gives w (holds w a) (holds w b) i, until_at-from w (holds w a) (holds w b) i ring within);
  finally_means = finally-means;
  globally_means = globally-means;
}
