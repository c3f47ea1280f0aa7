-- Counts of the faults of what lies outside. This project's own.
use Rattle.std.specs.Prelude.{◌≡◌, ℕ, ◌<◌, ◌-◌, ◌^◌, ◌⊎◌, List, count_by, nat_eq}
use Rattle.std.specs.Cmp.Lexicographic.{pointwise}

-- A count rose: it's greater than before, or it stands at the greatest number of 64 bits.
abbrev pub Rose : ℕ → ℕ → Type 0
Rose before after = (before < after) ⊎ ((before ≡ 2 ^ 64 - 1) × (after ≡ 2 ^ 64 - 1))

-- how often a name stands in a list of names
abbrev pub count_of : List (List ℕ) → List ℕ → ℕ
count_of names name = count_by (pointwise nat_eq name) names
