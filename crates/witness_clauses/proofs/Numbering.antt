-- What is made of numbered elements, one more at a time.
use Rattle.std.proofs.Common.{◌≡◌, ℕ, suc, ◌+◌, ◌<◌, ◌≤◌, List, [], ◌∷◌, ◌++◌, length, take, get_or, sym, ap, ◌∙◌, arith}
use Rattle.std.proofs.lemmas.List.{append_assoc, append-nil, length-take-le, take_all, take_more}
use Rattle.truth_witness.specs.Frames.{numbered}

module _ {A : Type 0} (f : ℕ → A → List (List ℕ)) where
  -- what is made of an element behind others
  numbered_last : (n : ℕ) (xs : List A) (x : A) → numbered f n (xs ++ x ∷ []) ≡ numbered f n xs ++ f (n + length xs) x
  numbered_last n [] x = let e : n ≡ n + 0 = omega arith in append-nil (f n x) ∙ ap (λ (k : ℕ). f k x) e
  numbered_last n (y ∷ ys) x =
      let e : suc n + length ys ≡ n + suc (length ys) = omega arith in
      ap (λ more. f n y ++ more) (numbered_last (suc n) ys x ∙ ap (λ (k : ℕ). numbered f (suc n) ys ++ f k x) e)
      ∙ sym (append_assoc (f n y) (numbered f (suc n) ys) (f (n + suc (length ys)) x))

  -- a loop that adds what is made of each
  pub numbered_on : (old now new : List (List ℕ)) (xs : List A) (i : ℕ) (d : A) → i < length xs → now ≡ old ++ numbered f 0 (take i xs) → new ≡ now ++ f i (get_or xs i d)
      → new ≡ old ++ numbered f 0 (take (i + 1) xs)
  numbered_on old now new xs i d within before grown =
      let long : length (take i xs) ≡ i = length-take-le i xs (omega arith) in
      let e : 0 + length (take i xs) ≡ i = omega arith in
      grown ∙ ap (λ k. k ++ f i (get_or xs i d)) before
      ∙ append_assoc old (numbered f 0 (take i xs)) (f i (get_or xs i d))
      ∙ ap (λ more. old ++ more)
      (sym (ap (numbered f 0) (take_more xs i d within) ∙ numbered_last 0 (take i xs) (get_or xs i d) ∙ ap (λ (k : ℕ). numbered f 0 (take i xs) ++ f k (get_or xs i d)) e))

  -- behind the loop all are done
  pub numbered_all : (old now : List (List ℕ)) (xs : List A) (i : ℕ) → length xs ≤ i → now ≡ old ++ numbered f 0 (take i xs) → now ≡ old ++ numbered f 0 xs
  numbered_all old now xs i past before = before ∙ ap (λ done. old ++ numbered f 0 done) (take_all i xs past)
