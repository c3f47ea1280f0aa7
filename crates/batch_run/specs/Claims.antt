use Rattle.std.specs.Prelude.{◌≡◌, ℕ, zero, suc, ◌+◌, ◌-◌, List, [], ◌∷◌, ◌++◌}

-- so many places from the first one on, in order
abbrev pub places_from : ℕ → ℕ → List ℕ
places_from first zero = []
places_from first (suc n) = first ∷ places_from (first + 1) n

-- the places 0 up to n, in order
abbrev pub places_below : ℕ → List ℕ
places_below n = places_from 0 n

-- Which places of a row of tasks were claimed, in the order of the claims, and which weren't yet (this project's own).
pub record ClaimsModel : Type 0 where
  pub claimed : List ℕ
  pub unclaimed : List ℕ

-- The claimed places and those not yet claimed are all places, each once, in order.
abbrev pub AreAllPlaces : ℕ → ClaimsModel → Type 0
AreAllPlaces n c = c.claimed ++ c.unclaimed ≡ places_below n

-- the places below n, claimed up to the next one
abbrev pub split_at : ℕ → ℕ → ClaimsModel
split_at next n = record { claimed = places_below next; unclaimed = places_from next (n - next) }
