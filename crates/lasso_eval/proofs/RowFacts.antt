use Rattle.std.proofs.Common.{◌≡◌, ℕ, suc, ◌+◌, ◌-◌, ◌<◌, ◌≤◌, Bool, false, eqb, ◌&&◌, ◌||◌, inl, inr, List, [], length, refl, sym, ap, subst, ◌∙◌, arith}
use Rattle.std.proofs.lemmas.Bool.{cond-false, cases_eq, ne_eqb}
use Rattle.letters_and_lassos.specs.Word.{Word, HasRing, lasso_len, next, after}
use Rattle.letters_and_lassos.proofs.Positions.{after_within, next-inner}
use Rattle.ltl_formula.specs.Truth.{until_at, until_within, release_at}
use Rattle.ltl_formula.proofs.Ahead.{until_within-suc, until_at-ring, until_at-unfold}
use Rattle.ltl_formula.proofs.Futures.{until_at-agree, release_at-agree}
use Rattle.std.proofs.Common.{Result, Ok, Err, length-set, get_or-set_same, get_or-set_other}
use Rattle.std.specs.Prelude.{IfOk, slice_set, slice_index_or}
use Rattle.ltl_formula.specs.declared.nodes.FormulaId.{FormulaId}
use Rattle.ltl_formula.specs.declared.nodes.Node.{Node}
use Rattle.ltl_formula.specs.Nodes.{tree_at}
use Rattle.ltl_formula.specs.Truth.{holds}
use Rattle.lasso_eval.specs.Rows.{IsRow, IsTable, row_truth}
use Rattle.lasso_eval.specs.Passes.{HasPassed, position_of}

-- the truth of equal functions
pub IsRow-like : (n : ℕ) (f g : ℕ → Bool) (row : List Bool) → IsRow n f row → ((i : ℕ) → i < n → f i ≡ g i) → IsRow n g row
IsRow-like n f g row is same = record { len = is.len; each = λ i h. is.each i h ∙ same i h }

module _ (w : Word) (ring : HasRing w) (f g : ℕ → Bool) (a b : List Bool) (is_a : IsRow (lasso_len w) f a) (is_b : IsRow (lasso_len w) g b) where
  along : (h : ℕ → Bool) (c : List Bool) → IsRow (lasso_len w) h c → (i : ℕ) → i < lasso_len w → (j : ℕ) → row_truth c (after w i j) ≡ h (after w i j)
  along h c is i within j = is.each (after w i j) (after_within w i j ring within)

  -- until and release of rows are those of what they hold
  pub until-same : (i : ℕ) → i < lasso_len w → until_at w (row_truth a) (row_truth b) i ≡ until_at w f g i
  until-same i h = until_at-agree w w i i ring ring h h (row_truth a) (row_truth b) f g (along f a is_a i h) (along g b is_b i h)

  pub release-same : (i : ℕ) → i < lasso_len w → release_at w (row_truth a) (row_truth b) i ≡ release_at w f g i
  release-same i h = release_at-agree w w i i ring ring h h (row_truth a) (row_truth b) f g (along f a is_a i h) (along g b is_b i h)

-- the same where the first part is told by a function
module _ (w : Word) (ring : HasRing w) (f g : ℕ → Bool) (b : List Bool) (is_b : IsRow (lasso_len w) g b) where
  pub until_at-second : (i : ℕ) → i < lasso_len w → until_at w f (row_truth b) i ≡ until_at w f g i
  until_at-second i h = until_at-agree w w i i ring ring h h f (row_truth b) f g (λ j. refl) (λ j. is_b.each (after w i j) (after_within w i j ring h))

  pub release_at-second : (i : ℕ) → i < lasso_len w → release_at w f (row_truth b) i ≡ release_at w f g i
  release_at-second i h = release_at-agree w w i i ring ring h h f (row_truth b) f g (λ j. refl) (λ j. is_b.each (after w i j) (after_within w i j ring h))

-- the first pass: from the ring's end to its beginning
module _ (w : Word) (a b : ℕ → Bool) where
  pub ring_pass-more : (i high : ℕ) (carry : Bool) → i + 1 ≡ high → high ≤ lasso_len w → carry ≡ until_within w a b (lasso_len w - high) high
      → (b i || (a i && carry)) ≡ until_within w a b (lasso_len w - i) i
  ring_pass-more i high carry e small is =
      let count : suc (lasso_len w - high) ≡ lasso_len w - i = omega arith in
      let step : until_within w a b (lasso_len w - high) high ≡ until_within w a b (lasso_len w - high) (next w i) =
      elim (cases_eq high (lasso_len w)) [
        | inl last ↦
            let none : lasso_len w - high ≡ 0 = omega arith in
            ap (λ n. until_within w a b n high) none ∙ ap (λ n. until_within w a b n (next w i)) (sym none)
        | inr inner ↦ ap (until_within w a b (lasso_len w - high)) (sym e ∙ sym (next-inner w i (λ end. inner (sym e ∙ end))))
      ] in
      ap (λ c. b i || (a i && c)) (is ∙ step) ∙ sym (until_within-suc w a b (lasso_len w - high) i) ∙ ap (λ n. until_within w a b n i) count

  pub ring_pass-end : HasRing w → (carry : Bool) → carry ≡ until_within w a b (lasso_len w - length w.stem) (length w.stem) → carry ≡ until_at w a b (length w.stem)
  ring_pass-end ring carry is =
      let count : lasso_len w - length w.stem ≡ length w.ring = omega arith in
      is ∙ ap (λ n. until_within w a b n (length w.stem)) count ∙ until_at-ring w a b ring

  -- the second pass: from the last position to the first
  pub second_pass-more : (i : ℕ) (carry : Bool) → HasRing w → i < lasso_len w → carry ≡ until_at w a b (next w i) → (b i || (a i && carry)) ≡ until_at w a b i
  second_pass-more i carry ring within is = ap (λ c. b i || (a i && c)) is ∙ sym (until_at-unfold w a b i ring within)

-- one step of the second pass
pub HasPassed-more : (w : Word) (a b : ℕ → Bool) (high i : ℕ) (carry value : Bool) (row : List Bool) → HasRing w → i + 1 ≡ high → high ≤ lasso_len w
    → HasPassed w a b high carry row → value ≡ (b i || (a i && carry)) → HasPassed w a b i value (slice_set row i value)
HasPassed-more w a b high i carry value row ring next_is small passed is =
    let within : i < lasso_len w = omega arith in
    let before : carry ≡ until_at w a b (next w i) = subst (λ h. carry ≡ until_at w a b (position_of w h)) (sym next_is) passed.carried in
    let here : value ≡ until_at w a b i = is ∙ second_pass-more w a b i carry ring within before in
    let long : length row ≡ lasso_len w = passed.len in
    let inner : i ≡ lasso_len w → ⊥ = λ e. omega arith in
    record {
      carried = here ∙ ap (until_at w a b) (sym (cond-false (eqb i (lasso_len w)) (length w.stem) i (ne_eqb i (lasso_len w) inner)));
      len = length-set row i value ∙ passed.len;
      each = λ k from h.
          elim (cases_eq k i) [
            | inl at ↦
                ap (λ n. row_truth (slice_set row i value) n) at ∙ get_or-set_same row i value false (omega arith) ∙ here ∙ ap (until_at w a b) (sym at)
            | inr other ↦ get_or-set_other row i k value false other ∙ passed.each k (omega (arith, other)) h
          ];
    }

-- rows of equal functions
pub rows-like : {E : Type 0} (r : Result (List Bool) E) (n : ℕ) (f g : ℕ → Bool) → ((i : ℕ) → i < n → f i ≡ g i) → IfOk r (λ row. IsRow n f row) → IfOk r (λ row. IsRow n g row)
rows-like (Ok row) n f g same is = IsRow-like n f g row is same
rows-like (Err fault) n f g same is = tt

pub IsRow-self : (n : ℕ) (row : List Bool) → length row ≡ n → IsRow n (row_truth row) row
IsRow-self n row e = record { len = e; each = λ i h. refl }

-- the row of a part
pub row-of-part : (w : Word) (nodes : List Node) (rows : List (List Bool)) (f a : FormulaId) (part : List Bool) → IsTable w nodes rows → length rows ≡ f.0 → a.0 < f.0
    → part ≡ slice_index_or rows a.0 [] → IsRow (lasso_len w) (holds w (tree_at nodes a)) part
row-of-part w nodes rows f a part table long below is = subst (IsRow (lasso_len w) (holds w (tree_at nodes a))) (sym is) (table.each a.0 (omega arith))
