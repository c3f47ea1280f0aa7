use Rattle.std.proofs.Common.{◌≡◌, inl, inr, ℕ, suc, ◌+◌, ◌<◌, ◌≤◌, Bool, true, false, not, cond, ◌||◌, List, [], ◌∷◌, ◌++◌, Some, get_or, length, slice_get, refl, sym, ◌∙◌, ap, subst, arith}
use Rattle.std.specs.Prelude.{Contains}
use Rattle.std.specs.List.{list_any, position_or_len}
use Rattle.std.proofs.lemmas.Bool.{cases_Bool, cond-true, cond-false, false≢true, or_cases}
use Rattle.std.proofs.lemmas.List.{append-nil, length-append}
use Rattle.std.proofs.lemmas.List.Elements.{Contains-append_left}
use Rattle.std.proofs.lemmas.Option.{slice_get-get_or}
use Rattle.names_and_numbers.specs.Prefix.{IsPrefix}
use Rattle.names_and_numbers.proofs.PrefixLemmas.{slice_get-append}
use Rattle.indexmap.specs.IndexSet.{insert_key}

pub IsPrefix-length : {X : Type 0} (xs ys : List X) → IsPrefix xs ys → length xs ≤ length ys
IsPrefix-length xs ys a = let e : length ys ≡ length (xs ++ a.0) = ap length a.1 in omega (arith, length-append xs a.0)

pub IsPrefix-contains : {X : Type 0} (xs ys : List X) (x : X) → IsPrefix xs ys → Contains xs x → Contains ys x
IsPrefix-contains xs ys x a c = subst (λ l. Contains l x) (sym a.1) (Contains-append_left xs a.0 x c)

pub IsPrefix-at : {X : Type 0} (xs ys : List X) (k : ℕ) (x : X) → IsPrefix xs ys → slice_get xs k ≡ Some x → slice_get ys k ≡ Some x
IsPrefix-at xs ys k x a h = subst (λ l. slice_get l k ≡ Some x) (sym a.1) (slice_get-append xs a.0 k x h)

-- what stands at a place that was there stood there before
pub IsPrefix-before : {X : Type 0} (xs ys : List X) (k : ℕ) (x : X) → IsPrefix xs ys → k < length xs → slice_get ys k ≡ Some x → slice_get xs k ≡ Some x
IsPrefix-before xs ys k x a h at =
    let old : slice_get xs k ≡ Some (get_or xs k x) = slice_get-get_or xs k x h in
    let same : Some x ≡ Some (get_or xs k x) = sym at ∙ IsPrefix-at xs ys k (get_or xs k x) a old in
    old ∙ sym same

module _ {X : Type 0} (eq : X → X → Bool) where
  pub insert_key-more : (ks : List X) (k : X) → IsPrefix ks (insert_key eq ks k)
  insert_key-more ks k =
      elim (cases_Bool (list_any (eq k) ks)) [
        | inl old ↦ ([], cond-true (list_any (eq k) ks) ks (ks ++ k ∷ []) old ∙ sym (append-nil ks))
        | inr fresh ↦ (k ∷ [], cond-false (list_any (eq k) ks) ks (ks ++ k ∷ []) fresh)
      ]

-- the first that passes
found_at : {X : Type 0} (p : X → Bool) (xs : List X) → list_any p xs ≡ true → (y : X) × (slice_get xs (position_or_len p xs) ≡ Some y) × (p y ≡ true)
found_at p [] h = absurd (false≢true h)
found_at {X} p (x ∷ xs) h = by (found_at p xs) (p x) refl
  where
    by : (list_any p xs ≡ true → (y : X) × (slice_get xs (position_or_len p xs) ≡ Some y) × (p y ≡ true)) → (b : Bool) → p x ≡ b → (y : X) × (slice_get (x ∷ xs) (cond (not (p x)) (1 + position_or_len p xs) 0) ≡ Some y) × (p y ≡ true)
    by rest true e = (x, ap (λ b. slice_get (x ∷ xs) (cond (not b) (1 + position_or_len p xs) 0)) e, e)
    by rest false e =
        let later : list_any p xs ≡ true = elim (or_cases (p x) (list_any p xs) h) [ inl here ↦ absurd (false≢true (sym e ∙ here)) | inr there ↦ there ] in
        let r : (y : X) × (slice_get xs (position_or_len p xs) ≡ Some y) × (p y ≡ true) = rest later in
        let one : 1 + position_or_len p xs ≡ suc (position_or_len p xs) = omega arith in
        (r.0, ap (λ b. slice_get (x ∷ xs) (cond (not b) (1 + position_or_len p xs) 0)) e ∙ ap (slice_get (x ∷ xs)) one ∙ r.1, r.2)

missing_at : {X : Type 0} (p : X → Bool) (xs : List X) (k : X) → list_any p xs ≡ false → slice_get (xs ++ k ∷ []) (position_or_len p xs) ≡ Some k
missing_at p [] k h = refl
missing_at p (x ∷ xs) k h = by (missing_at p xs k) (p x) refl
  where
    by : (list_any p xs ≡ false → slice_get (xs ++ k ∷ []) (position_or_len p xs) ≡ Some k) → (b : Bool) → p x ≡ b → slice_get (x ∷ (xs ++ k ∷ [])) (cond (not (p x)) (1 + position_or_len p xs) 0) ≡ Some k
    by rest true e = absurd (false≢true (sym h ∙ ap (λ b. b || list_any p xs) e))
    by rest false e =
        let later : list_any p xs ≡ false = ap (λ b. b || list_any p xs) (sym e) ∙ h in
        let one : 1 + position_or_len p xs ≡ suc (position_or_len p xs) = omega arith in
        ap (λ b. slice_get (x ∷ (xs ++ k ∷ [])) (cond (not b) (1 + position_or_len p xs) 0)) e ∙ ap (slice_get (x ∷ (xs ++ k ∷ []))) one ∙ rest later

module _ {X : Type 0} (eq : X → X → Bool) (decides : (x y : X) → eq x y ≡ true → x ≡ y) where
  -- what is put in stands at the place that it is told
  pub insert_key-at : (ks : List X) (k : X) → slice_get (insert_key eq ks k) (position_or_len (eq k) ks) ≡ Some k
  insert_key-at ks k =
      elim (cases_Bool (list_any (eq k) ks)) [
        | inl old ↦
            let r : (y : X) × (slice_get ks (position_or_len (eq k) ks) ≡ Some y) × (eq k y ≡ true) = found_at (eq k) ks old in
            subst (λ l. slice_get l (position_or_len (eq k) ks) ≡ Some k) (sym (cond-true (list_any (eq k) ks) ks (ks ++ k ∷ []) old))
            (r.1 ∙ ap Some (sym (decides k r.0 r.2)))
        | inr fresh ↦
            subst (λ l. slice_get l (position_or_len (eq k) ks) ≡ Some k) (sym (cond-false (list_any (eq k) ks) ks (ks ++ k ∷ []) fresh))
            (missing_at (eq k) ks k fresh)
      ]
