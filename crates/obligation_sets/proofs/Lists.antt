use Rattle.std.proofs.Common.{◌≡◌, ℕ, zero, suc, ◌<◌, ◌⊎◌, inl, inr, Bool, true, false, ◌&&◌, cond, List, [], ◌∷◌, filter, get_or, length, reverse, refl, sym, ◌∙◌, ap, subst, arith, All}
use Rattle.std.specs.Prelude.{Contains}
use Rattle.std.proofs.lemmas.Bool.{cond-true}
use Rattle.std.proofs.lemmas.List.{reverse-append, reverse-reverse}
use Rattle.std.proofs.lemmas.List.Elements.{All-append, All-cons, All-head, All-nil, All-tail}
use Rattle.std_lemmas.proofs.Lists.{Contains-cases, Contains-head, Contains-later}

-- what is in a list that has a first element
at_cases : {X : Type 0} (y : X) (xs : List X) (x : X) (k : ℕ) → k < length (y ∷ xs) → get_or (y ∷ xs) k x ≡ x → (y ≡ x) ⊎ Contains xs x
at_cases y xs x zero h e = inl e
at_cases y xs x (suc k) h e = inr (k, omega arith, e)

-- a list's elements stand in the list turned round, and the other way
pub All-reverse : {X : Type 0} (P : X → Type 0) (xs : List X) → All P xs → All P (reverse xs)
All-reverse P [] all = all
All-reverse P (x ∷ xs) all = rw (reverse-append (x ∷ []) xs) (All-append P (reverse xs) (x ∷ []) (All-reverse P xs (All-tail P x xs all)) (All-cons P x [] (All-head P x xs all) (All-nil P)))

pub All-of_reverse : {X : Type 0} (P : X → Type 0) (xs : List X) → All P (reverse xs) → All P xs
All-of_reverse P xs all = rw (reverse-reverse xs) at (All-reverse P (reverse xs) all)

-- what a filter keeps
module _ {X : Type 0} (p : X → Bool) where
  in_cond : (b : Bool) (x : X) (xs : List X) (y : X) → Contains (cond b (x ∷ xs) xs) y → Contains (x ∷ xs) y
  in_cond true x xs y c = c
  in_cond false x xs y c = Contains-later x xs y c

  pub filter_from : (xs : List X) (y : X) → Contains (filter p xs) y → Contains xs y
  filter_from [] y c = c
  filter_from (x ∷ xs) y c =
      elim (Contains-cases x (filter p xs) y (in_cond (p x) x (filter p xs) y c)) [
        | inl same ↦ subst (λ (z : X). Contains (z ∷ xs) y) (sym same) (Contains-head y xs)
        | inr later ↦ Contains-later x xs y (filter_from xs y later)
      ]

  cond_keeps : (b : Bool) (x : X) (xs : List X) (y : X) → Contains xs y → Contains (cond b (x ∷ xs) xs) y
  cond_keeps true x xs y c = Contains-later x xs y c
  cond_keeps false x xs y c = c

  pub filter_in : (xs : List X) (y : X) → Contains xs y → p y ≡ true → Contains (filter p xs) y
  filter_in [] y c e = c
  filter_in (x ∷ xs) y c e =
      elim (Contains-cases x xs y c) [
        | inl same ↦
            subst (λ (l : List X). Contains l y) (sym (cond-true (p x) (x ∷ filter p xs) (filter p xs) (ap p same ∙ e)))
            (subst (λ (z : X). Contains (z ∷ filter p xs) y) (sym same) (Contains-head y (filter p xs)))
        | inr later ↦ cond_keeps (p x) x (filter p xs) y (filter_in xs y later e)
      ]

  -- tests that agree on a list's elements keep the same ones
  pub filter_agree_in : (q : X → Bool) (xs : List X) → ((x : X) → Contains xs x → p x ≡ q x) → filter p xs ≡ filter q xs
  filter_agree_in q [] each = refl
  filter_agree_in q (x ∷ xs) each =
      λ i. cond (each x (Contains-head x xs) i) (x ∷ filter_agree_in q xs (λ y c. each y (Contains-later x xs y c)) i) (filter_agree_in q xs (λ y c. each y (Contains-later x xs y c)) i)

  cond_twice : (q : X → Bool) (b : Bool) (x : X) (xs : List X) → filter q (cond b (x ∷ xs) xs) ≡ cond (b && q x) (x ∷ filter q xs) (filter q xs)
  cond_twice q true x xs = refl
  cond_twice q false x xs = refl

  pub filter_twice : (q : X → Bool) (xs : List X) → filter q (filter p xs) ≡ filter (λ x. p x && q x) xs
  filter_twice q [] = refl
  filter_twice q (x ∷ xs) = cond_twice q (p x) x (filter p xs) ∙ ap (λ ys. cond (p x && q x) (x ∷ ys) ys) (filter_twice q xs)
