use Rattle.std.specs.Prelude.{◌≡◌, ℕ, zero, suc, ◌+◌, ◌/◌, ◌%◌, ◌^◌, ◌<◌, Bool, true, List, Option, Some, None, length, map, slice_index_or, if◌then◌else◌}
use Rattle.std.specs.List.{range_with_len}
use Rattle.propositional_logic.specs.Truth.{value_of}
use Rattle.machine_model.specs.Automaton.{states_of}
use Rattle.machine_model.specs.Problem.{automaton_of, writes_of}
use Rattle.machine_model.specs.declared.machines.Row.{Row}
use Rattle.machine_model.specs.declared.problems.Problem.{Problem}
use Rattle.product_bound.specs.Annotation.{places_of}
use Rattle.annotation_encode.specs.BaseClauses.{row_count, row_move}
use Rattle.annotation_encode.specs.Variables.{letter_count, number_count, var_count, var_write}
use Rattle.machine_decode.specs.Decoded.{IsLeastMove}

-- The parts of a decoded machine and annotation.

-- the letter of the first n signals whose variables, counted from a first one, are true
abbrev pub letter_from : List Bool → ℕ → ℕ → ℕ
letter_from values first zero = 0
letter_from values first (suc n) = letter_from values first n + (if value_of values (first + n) then 2 ^ n else 0)

-- the greatest number below n whose variable, counted from a first one, is true
abbrev pub greatest_from : List Bool → ℕ → ℕ → Option ℕ
greatest_from values first zero = None
greatest_from values first (suc n) = if value_of values (first + n) then Some n else greatest_from values first n

-- what is written on the row at a place
abbrev pub written_of : Problem → List Bool → ℕ → ℕ
written_of p values place = letter_from values (var_write p (place / letter_count p) (place % letter_count p) 0) (writes_of p)

-- the row at a place
pub record IsRow (p : Problem) (values : List Bool) (place : ℕ) (row : Row) : Type 0 where
  pub next : IsLeastMove p values place row.next
  pub writes : row.writes ≡ written_of p values place

-- the first n rows
pub record AreRows (p : Problem) (values : List Bool) (n : ℕ) (table : List Row) : Type 0 where
  pub places : length table ≡ n
  pub each : (place : ℕ) → place < n → IsRow p values place (slice_index_or table place (record { next = 0; writes = 0 }))

-- some move from a row is true
pub record HasMove (p : Problem) (values : List Bool) (place : ℕ) : Type 0 where
  pub to : ℕ
  pub within : to < p.size
  pub moves : value_of values (row_move p place to) ≡ true

-- from each row
pub record HasMoves (p : Problem) (values : List Bool) : Type 0 where
  pub each : (place : ℕ) → place < row_count p → HasMove p values place

-- the greatest number that a pair reaches
abbrev pub pair_number : Problem → List Bool → ℕ → ℕ → Option ℕ
pair_number p values t q = greatest_from values (var_count p t q 0) (number_count p q)

-- that of the pair at a place
abbrev pub written_number : Problem → List Bool → ℕ → Option ℕ
written_number p values place = pair_number p values (place / states_of (automaton_of p)) (place % states_of (automaton_of p))

abbrev pub numbers_of : Problem → List Bool → List (Option ℕ)
numbers_of p values = map (written_number p values) (range_with_len 0 (places_of p))
