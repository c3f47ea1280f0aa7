-- Places of states in a list that grows at its end.
use Rattle.std.proofs.Common.{◌≡◌, ℕ, zero, suc, ◌+◌, ◌<◌, ◌≤◌, inl, inr, Bool, true, false, List, [], ◌∷◌, ◌++◌, length, get_or, eqb, cond, refl, sym, ap, ◌∙◌, arith}
use Rattle.std.specs.Prelude.{Contains, nat_lt}
use Rattle.std.proofs.lemmas.Bool.{cases_eq, cases_lt, cond-true, cond-false, eq-eqb, ne_eqb}
use Rattle.std.proofs.lemmas.Bool.Decides.{Decides-ltb}
use Rattle.std.proofs.lemmas.List.{get_or_append_left, length_push}
use Rattle.std.proofs.lemmas.List.Elements.{Contains-push_cases}
use Rattle.product_bound.specs.Numbered.{place_in, with_state}
use Rattle.product_bound.proofs.Sums.{Once}

place_in-here : (x : ℕ) (xs : List ℕ) (s : ℕ) → x ≡ s → place_in (x ∷ xs) s ≡ 0
place_in-here x xs s e = cond-true (eqb x s) 0 (place_in xs s + 1) (eq-eqb x s e)

place_in-later : (x : ℕ) (xs : List ℕ) (s : ℕ) → (x ≡ s → ⊥) → place_in (x ∷ xs) s ≡ place_in xs s + 1
place_in-later x xs s ne = cond-false (eqb x s) 0 (place_in xs s + 1) (ne_eqb x s ne)

pub place_in-le : (xs : List ℕ) (s : ℕ) → place_in xs s ≤ length xs
place_in-le [] s = omega arith
place_in-le (x ∷ xs) s =
    let rest : place_in xs s ≤ length xs = place_in-le xs s in
    elim (cases_eq x s) [
      | inl e ↦ let h : place_in (x ∷ xs) s ≡ 0 = place_in-here x xs s e in omega (arith, h)
      | inr ne ↦ let h : place_in (x ∷ xs) s ≡ place_in xs s + 1 = place_in-later x xs s ne in omega (arith, h, rest)
    ]

-- the state stands at its place
pub at_place : (xs : List ℕ) (s : ℕ) → place_in xs s < length xs → get_or xs (place_in xs s) 0 ≡ s
at_place [] s h = absurd (omega arith)
at_place (x ∷ xs) s h =
    elim (cases_eq x s) [
      | inl e ↦ ap (λ k. get_or (x ∷ xs) k 0) (place_in-here x xs s e) ∙ e
      | inr ne ↦
          let p : place_in (x ∷ xs) s ≡ place_in xs s + 1 = place_in-later x xs s ne in
          let q : place_in (x ∷ xs) s ≡ suc (place_in xs s) = omega (arith, p) in
          ap (λ k. get_or (x ∷ xs) k 0) q ∙ at_place xs s (omega (arith, h, q))
    ]

-- a state that stands at a place has that place or an earlier one
pub place_in-first : (xs : List ℕ) (s k d : ℕ) → k < length xs → get_or xs k d ≡ s → place_in xs s ≤ k
place_in-first [] s k d h e = absurd (omega arith)
place_in-first (x ∷ xs) s zero d h e = let p : place_in (x ∷ xs) s ≡ 0 = place_in-here x xs s e in omega (arith, p)
place_in-first (x ∷ xs) s (suc k) d h e =
    elim (cases_eq x s) [
      | inl same ↦ let p : place_in (x ∷ xs) s ≡ 0 = place_in-here x xs s same in omega (arith, p)
      | inr ne ↦
          let p : place_in (x ∷ xs) s ≡ place_in xs s + 1 = place_in-later x xs s ne in
          let rest : place_in xs s ≤ k = place_in-first xs s k d (omega arith) e in
          omega (arith, p, rest)
    ]

-- one list goes on from another
pub record Extends (xs ys : List ℕ) : Type 0 where
  pub more : length xs ≤ length ys
  pub same : (k : ℕ) → k < length xs → get_or ys k 0 ≡ get_or xs k 0
  pub places : (s : ℕ) → place_in xs s < length xs → place_in ys s ≡ place_in xs s

pub Extends-refl : (xs : List ℕ) → Extends xs xs
Extends-refl xs = record { more = omega arith; same = λ k h. refl; places = λ s h. refl }

pub Extends-trans : (xs ys zs : List ℕ) → Extends xs ys → Extends ys zs → Extends xs zs
Extends-trans xs ys zs a b =
    let m : length xs ≤ length ys = a.more in
    let n : length ys ≤ length zs = b.more in
    record {
      more = omega arith;
      same = λ k h. b.same k (omega arith) ∙ a.same k h;
      places = λ s h.
          let p : place_in ys s ≡ place_in xs s = a.places s h in
          b.places s (omega (arith, p, h)) ∙ p;
    }

place_in-pushed : (xs : List ℕ) (y s : ℕ) → place_in xs s < length xs → place_in (xs ++ y ∷ []) s ≡ place_in xs s
place_in-pushed [] y s h = absurd (omega arith)
place_in-pushed (x ∷ xs) y s h =
    elim (cases_eq x s) [
      | inl e ↦ place_in-here x (xs ++ y ∷ []) s e ∙ sym (place_in-here x xs s e)
      | inr ne ↦
          let p : place_in (x ∷ xs) s ≡ place_in xs s + 1 = place_in-later x xs s ne in
          place_in-later x (xs ++ y ∷ []) s ne ∙ ap (λ k. k + 1) (place_in-pushed xs y s (omega (arith, h, p))) ∙ sym p
    ]

place_in-new : (xs : List ℕ) (s : ℕ) → length xs ≤ place_in xs s → place_in (xs ++ s ∷ []) s ≡ place_in xs s
place_in-new [] s h = place_in-here s [] s refl
place_in-new (x ∷ xs) s h =
    elim (cases_eq x s) [
      | inl e ↦ let p : place_in (x ∷ xs) s ≡ 0 = place_in-here x xs s e in absurd (omega (arith, h, p))
      | inr ne ↦
          let p : place_in (x ∷ xs) s ≡ place_in xs s + 1 = place_in-later x xs s ne in
          place_in-later x (xs ++ s ∷ []) s ne ∙ ap (λ k. k + 1) (place_in-new xs s (omega (arith, h, p))) ∙ sym p
    ]

-- what `with_state` leaves: the list goes on, at most by one, and the state stands at its old place
pub record Added (xs : List ℕ) (s : ℕ) (ys : List ℕ) : Type 0 where
  pub extends : Extends xs ys
  pub place : place_in ys s ≡ place_in xs s
  pub inside : place_in ys s < length ys
  pub old : place_in xs s < length xs → length ys ≡ length xs
  pub fresh : length xs ≤ place_in xs s → length ys ≡ length xs + 1

added_when : (xs : List ℕ) (s : ℕ) (known : Bool) → nat_lt (place_in xs s) (length xs) ≡ known → Added xs s (cond known xs (xs ++ s ∷ []))
added_when xs s true e =
    let h : place_in xs s < length xs = (Decides-ltb (place_in xs s) (length xs)).0 e in
    record {
      extends = Extends-refl xs;
      place = refl;
      inside = h;
      old = λ _. refl;
      fresh = λ g. absurd (omega (arith, g, h));
    }
added_when xs s false e =
    elim (cases_lt (place_in xs s) (length xs)) [
      | inl h ↦ absurd (let t : true ≡ false = sym ((Decides-ltb (place_in xs s) (length xs)).1 h) ∙ e in cc)
      | inr g ↦
          let n : length (xs ++ s ∷ []) ≡ length xs + 1 = length_push xs s in
          let l : place_in xs s ≤ length xs = place_in-le xs s in
          let p : place_in (xs ++ s ∷ []) s ≡ place_in xs s = place_in-new xs s g in
          record {
            extends = record {
              more = omega (arith, n);
              same = λ k h. get_or_append_left xs (s ∷ []) 0 k h;
              places = λ x h. place_in-pushed xs s x h;
            };
            place = p;
            inside = omega (arith, n, l, p);
            old = λ h. absurd (omega (arith, g, h));
            fresh = λ _. n;
          }
    ]

pub added : (xs : List ℕ) (s : ℕ) → Added xs s (with_state xs s)
added xs s = added_when xs s (nat_lt (place_in xs s) (length xs)) refl

-- different states below n
Once-push : (n : ℕ) (r : ℕ → ℕ) (xs : List ℕ) (s : ℕ) → Once n r xs → s < n → (Contains xs s → ⊥) → Once n r (xs ++ s ∷ [])
Once-push n r [] s once h none = (h, (λ _ (k, lt, e). omega arith, tt))
Once-push n r (x ∷ xs) s once h none = (
  once.0,
  (
    λ counts there. elim (Contains-push_cases xs s x there) [
      | inl before ↦ once.1.0 counts before
      | inr same ↦ none (0, omega arith, sym same)
    ],
    Once-push n r xs s once.1.1 h (λ (k, lt, e). none (suc k, omega arith, e)),
  ),
)

once_when : (n : ℕ) (r : ℕ → ℕ) (xs : List ℕ) (s : ℕ) (known : Bool) → nat_lt (place_in xs s) (length xs) ≡ known → Once n r xs → s < n → Once n r (cond known xs (xs ++ s ∷ []))
once_when n r xs s true e once h = once
once_when n r xs s false e once h = Once-push n r xs s once h (λ (k, lt, is).
    let first : place_in xs s ≤ k = place_in-first xs s k s lt is in
    let less : place_in xs s < length xs = omega (arith, lt) in
    let t : true ≡ false = sym ((Decides-ltb (place_in xs s) (length xs)).1 less) ∙ e in
    cc)

pub Once-with_state : (n : ℕ) (r : ℕ → ℕ) (xs : List ℕ) (s : ℕ) → Once n r xs → s < n → Once n r (with_state xs s)
Once-with_state n r xs s once h = once_when n r xs s (nat_lt (place_in xs s) (length xs)) refl once h
