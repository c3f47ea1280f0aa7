-- Lists and their elements.
use Rattle.std.proofs.Common.{◌≡◌, ℕ, ◌≤◌, List, [], ◌∷◌, map, refl, subst}
use Rattle.std.specs.Prelude.{All, Contains, sum_by}
use Rattle.std.proofs.lemmas.List.Elements.{All-head, All-tail}
use Rattle.std.proofs.lemmas.List.Sums.{get_or-le-sum_by}

-- functions that agree on each element give the same list
pub map-All : {X Y : Type 0} (f g : X → Y) (xs : List X) → All (λ x. f x ≡ g x) xs → map f xs ≡ map g xs
map-All f g [] same = refl
map-All f g (x ∷ xs) same =
    let first : f x ≡ g x = All-head (λ x. f x ≡ g x) x xs same in
    let others : map f xs ≡ map g xs = map-All f g xs (All-tail (λ x. f x ≡ g x) x xs same) in
    λ i. first i ∷ others i

-- what all have an element has
pub All-Contains : {X : Type 0} (P : X → Type 0) (xs : List X) (x : X) → All P xs → Contains xs x → P x
All-Contains P xs x all there = subst P there.2 (all there.0 x there.1)

-- an element's weight is at most the sum of all
pub Contains-sum : {X : Type 0} (f : X → ℕ) (xs : List X) (x : X) → Contains xs x → f x ≤ sum_by f xs
Contains-sum f xs x there = subst (λ y. f y ≤ sum_by f xs) there.2 (get_or-le-sum_by f xs there.0 x there.1)
