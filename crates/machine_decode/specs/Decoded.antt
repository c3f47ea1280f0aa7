use Rattle.std.specs.Prelude.{◌≡◌, ℕ, ◌<◌, ◌≤◌, Bool, true, false, List, Option, Some, None, length}
use Rattle.propositional_logic.specs.Truth.{value_of}
use Rattle.letters_and_lassos.specs.Signals.{has}
use Rattle.machine_model.specs.Automaton.{states_of}
use Rattle.machine_model.specs.Machine.{MachineModel, next_of, writes_of}
use Rattle.machine_model.specs.Problem as looked_for
use Rattle.machine_model.specs.Problem.{automaton_of}
use Rattle.machine_model.specs.declared.problems.Problem.{Problem}
use Rattle.product_bound.specs.Annotation.{bound_at, number_at, places_of}
use Rattle.annotation_encode.specs.BaseClauses.{row_move}
use Rattle.annotation_encode.specs.Variables.{letter_count, row_place, var_count, var_write}

-- the least state to which the machine may move from a row: its move is true, and none to a state before it is (this
-- project's own)
pub record IsLeastMove (p : Problem) (values : List Bool) (place to : ℕ) : Type 0 where
  pub within : to < p.size
  pub moves : value_of values (row_move p place to) ≡ true
  pub least : (s : ℕ) → s < to → value_of values (row_move p place s) ≡ false

-- the greatest number that a pair reaches, if it reaches any (this project's own)
abbrev pub IsGreatestCount : Problem → List Bool → ℕ → ℕ → Option ℕ → Type 0
IsGreatestCount p values t q None = (c : ℕ) → c ≤ bound_at p q → value_of values (var_count p t q c) ≡ false
IsGreatestCount p values t q (Some number) =
    (number ≤ bound_at p q) × (value_of values (var_count p t q number) ≡ true)
    × ((c : ℕ) → number < c → c ≤ bound_at p q → value_of values (var_count p t q c) ≡ false)

-- what an assignment says of a machine and an annotation: each row goes to the least state to which it may move, what is
-- written is what is true, and each pair has the greatest number that it reaches (bounded synthesis of Finkbeiner and
-- Schewe; the two choices are this project's own)
pub record IsDecoded (p : Problem) (values : List Bool) (m : MachineModel) (numbers : List (Option ℕ)) : Type 0 where
  pub moves : (t i : ℕ) → t < p.size → i < letter_count p → IsLeastMove p values (row_place p t i) (next_of m t i)
  pub writes : (t i s : ℕ) → t < p.size → i < letter_count p → s < looked_for.writes_of p → has (writes_of m t i) s ≡ value_of values (var_write p t i s)
  pub places : length numbers ≡ places_of p
  pub counts : (t q : ℕ) → t < p.size → q < states_of (automaton_of p) → IsGreatestCount p values t q (number_at p numbers t q)
