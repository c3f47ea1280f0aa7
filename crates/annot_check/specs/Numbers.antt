-- The numbers of the pairs of a list by their places (this project's own).
use Rattle.std.specs.Prelude.{◌≡◌, ◌⊎◌, ℕ, ◌≤◌, Bool, List, Option, Some, None}
use Rattle.std.specs.HashMap.{get}
use Rattle.annot_check.specs.declared.pairs.Pair.{Pair}
use Rattle.annot_check.specs.declared.numbers.Place.{Place}
use Rattle.annot_check.specs.declared.numbers.Numbers.{Numbers}
use Rattle.annot_check.specs.contracts.numbers.PlacePartialEq.TheImpl.{ghosts as place_ghosts}
use Rattle.annot_check.specs.Pairs.{PairStands}

-- whether two places are the same, as it is derived: by their codes and states
abbrev pub place_eq : Place → Place → Bool
place_eq = place_ghosts.eq

abbrev pub pair_place : Pair → Place
pair_place pair = record { code = pair.code; state = pair.state }

abbrev pub greatest_at : Numbers → Place → Option ℕ
greatest_at numbers place = get place_eq numbers.greatest place

-- there is a number, and it is at least this
abbrev pub AtLeast : Option ℕ → ℕ → Type 0
AtLeast None least = ⊥
AtLeast (Some number) least = least ≤ number

-- what is kept tells which pairs stand
pub record Knows (greatest : Place → Option ℕ) (pairs : List Pair) : Type 0 where
  pub finds : (place : Place) (least : ℕ) → AtLeast (greatest place) least → PairStands pairs place.code place.state least
  pub finds_all : (place : Place) (least : ℕ) → PairStands pairs place.code place.state least → AtLeast (greatest place) least

-- and so it does of one pair more
pub record Adds (old new : Place → Option ℕ) (pair : Pair) : Type 0 where
  pub kept : (place : Place) (least : ℕ) → AtLeast (old place) least → AtLeast (new place) least
  pub added : (place : Place) (least : ℕ) → place ≡ pair_place pair → least ≤ pair.number → AtLeast (new place) least
  pub no_other : (place : Place) (least : ℕ) → AtLeast (new place) least
      → AtLeast (old place) least ⊎ ((place ≡ pair_place pair) × (least ≤ pair.number))
