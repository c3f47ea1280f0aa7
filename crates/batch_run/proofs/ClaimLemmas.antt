-- Places from one on, and how a claim moves the seam between the claimed ones and the others.
use Rattle.std.proofs.Common.{◌≡◌, ℕ, zero, suc, ◌+◌, ◌-◌, ◌<◌, ◌≤◌, [], ◌∷◌, ◌++◌, refl, sym, ◌∙◌, ap, arith}
use Rattle.batch_run.specs.Claims.{AreAllPlaces, places_below, places_from, split_at}

-- n places, and m more
pub places-add : (first n m : ℕ) → places_from first n ++ places_from (first + n) m ≡ places_from first (n + m)
places-add first zero m =
    let here : first + 0 ≡ first = omega arith in
    let many : 0 + m ≡ m = omega arith in
    rw (here, many) refl
places-add first (suc n) m =
    let here : first + suc n ≡ (first + 1) + n = omega arith in
    let many : suc n + m ≡ suc (n + m) = omega arith in
    rw (here, many) (ap (λ places. first ∷ places) (places-add (first + 1) n m))

-- so many places and the next one
pub places-push : (first n : ℕ) → places_from first (n + 1) ≡ places_from first n ++ (first + n) ∷ []
places-push first n = sym (places-add first n 1)

pub places_below-push : (n : ℕ) → places_below (n + 1) ≡ places_below n ++ n ∷ []
places_below-push n =
    let here : 0 + n ≡ n = omega arith in
    places-push 0 n ∙ ap (λ k. places_below n ++ k ∷ []) here

-- the claimed places and the others are all places
pub all_places : (next n : ℕ) → next ≤ n → AreAllPlaces n (split_at next n)
all_places next n within =
    let here : next ≡ 0 + next = omega arith in
    let many : next + (n - next) ≡ n = omega arith in
    ap (λ k. places_below next ++ places_from k (n - next)) here ∙ places-add 0 next (n - next) ∙ ap places_below many

-- the first place that isn't claimed
pub places-first : (next n : ℕ) → next < n → places_from next (n - next) ≡ next ∷ places_from (next + 1) (n - (next + 1))
places-first next n within =
    let many : n - next ≡ suc (n - (next + 1)) = omega arith in
    ap (places_from next) many

-- the numbers from 1 on, and the next one
pub numbers-push : (n : ℕ) → places_from 1 n ++ (n + 1) ∷ [] ≡ places_from 1 (n + 1)
numbers-push n =
    let next : n + 1 ≡ 1 + n = omega arith in
    ap (λ k. places_from 1 n ++ k ∷ []) next ∙ sym (places-push 1 n)
