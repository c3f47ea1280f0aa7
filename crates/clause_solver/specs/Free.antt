use Rattle.std.specs.Prelude.{ℕ, zero, suc, ◌+◌, ◌<◌, ◌≤◌, List, nat_eq, Bool, true, false}
use Rattle.std.specs.List.{list_any}
use Rattle.unit_propagate.specs.declared.marks.Mark.{Mark}
use Rattle.unit_propagate.specs.Trail.{IsFree}

-- Whether a variable has a value (propositional logic).
abbrev pub has_value : List Mark → ℕ → Bool
has_value marks var = list_any (λ m. nat_eq m.lit.var var) marks

-- One for a variable without a value.
abbrev pub vacancy : Bool → ℕ
vacancy true = 0
vacancy false = 1

-- How many of the variables 1 to n have no value (this project's own).
abbrev pub free_count : ℕ → List Mark → ℕ
free_count zero marks = 0
free_count (suc n) marks = vacancy (has_value marks (suc n)) + free_count n marks

-- Each of the variables 1 to vars has a value (propositional logic).
abbrev pub IsTotal : ℕ → List Mark → Type 0
IsTotal vars marks = (var : ℕ) → 0 < var → var ≤ vars → IsFree marks var → ⊥
