use Rattle.std.specs.Prelude.{◌≡◌, ◌⊎◌, ℕ, suc, Bool, true, false, List, [], ◌∷◌, Contains}

-- A place is added to a list of places, which holds the others as before.
pub record Gains (old new : List ℕ) (place : ℕ) : Type 0 where
  pub has : Contains new place
  pub keeps : (q : ℕ) → Contains old q → Contains new q
  pub only : (q : ℕ) → Contains new q → (q ≡ place) ⊎ Contains old q

-- The places of the flags that are set, where the flags begin at place k.
abbrev pub places_from : ℕ → List Bool → List ℕ
places_from k [] = []
places_from k (true ∷ flags) = k ∷ places_from (suc k) flags
places_from k (false ∷ flags) = places_from (suc k) flags

-- The places of the flags that are set.
abbrev pub places_of : List Bool → List ℕ
places_of flags = places_from 0 flags
