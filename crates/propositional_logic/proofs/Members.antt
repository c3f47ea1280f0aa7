-- Elements of lists, by cases on the list.
use Rattle.std.proofs.Common.{◌≡◌, ℕ, Bool, true, false, cond, List, [], ◌∷◌, ◌⊎◌, inl, inr, filter, take, Contains, refl, sym, subst, ap, ◌∙◌, true≢false}
use Rattle.std.proofs.lemmas.List.Elements.{All-contains, All-take, All-contains_itself}
pub use Rattle.std_lemmas.proofs.Lists.{Contains-head, Contains-later, Contains-none, Contains-cases}

-- what a filter keeps
pub Contains-filter : {X : Type 0} (p : X → Bool) (xs : List X) (y : X) → Contains (filter p xs) y → Contains xs y × (p y ≡ true)
Contains-filter p [] y h = absurd (Contains-none y h)
Contains-filter p (x ∷ xs) y h = by (p x) refl (Contains-filter p xs y) h
  where
    by : (b : Bool) → p x ≡ b → (Contains (filter p xs) y → Contains xs y × (p y ≡ true))
        → Contains (cond b (x ∷ filter p xs) (filter p xs)) y → Contains (x ∷ xs) y × (p y ≡ true)
    by true e rest m =
        elim (Contains-cases x (filter p xs) y m) [
          | inl s ↦ (subst (Contains (x ∷ xs)) s (Contains-head x xs), ap p (sym s) ∙ e)
          | inr r ↦ let k = rest r in (Contains-later x xs y k.0, k.1)
        ]
    by false e rest m = let k = rest m in (Contains-later x xs y k.0, k.1)

pub filter-Contains : {X : Type 0} (p : X → Bool) (xs : List X) (y : X) → Contains xs y → p y ≡ true → Contains (filter p xs) y
filter-Contains p [] y h t = absurd (Contains-none y h)
filter-Contains p (x ∷ xs) y h t = by (p x) refl (λ r. filter-Contains p xs y r t) (Contains-cases x xs y h)
  where
    by : (b : Bool) → p x ≡ b → (Contains xs y → Contains (filter p xs) y) → (x ≡ y) ⊎ Contains xs y
        → Contains (cond b (x ∷ filter p xs) (filter p xs)) y
    by true e rest (inl s) = subst (Contains (x ∷ filter p xs)) s (Contains-head x (filter p xs))
    by true e rest (inr r) = Contains-later x (filter p xs) y (rest r)
    by false e rest (inl s) = absurd (true≢false (sym t ∙ ap p (sym s) ∙ e))
    by false e rest (inr r) = rest r

-- a filter that no element passes keeps nothing
pub filter-none : {X : Type 0} (p : X → Bool) (xs : List X) → ((y : X) → Contains xs y → p y ≡ false) → filter p xs ≡ []
filter-none p [] h = refl
filter-none p (x ∷ xs) h = ap (λ b. cond b (x ∷ filter p xs) (filter p xs)) (h x (Contains-head x xs)) ∙ filter-none p xs (λ y m. h y (Contains-later x xs y m))

pub Contains-taken : {X : Type 0} (n : ℕ) (xs : List X) (y : X) → Contains (take n xs) y → Contains xs y
Contains-taken n xs y h = All-contains (Contains xs) (take n xs) y (All-take (Contains xs) n xs (All-contains_itself xs)) h
