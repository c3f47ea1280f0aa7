use Rattle.std.specs.Prelude.{◌≡◌, ◌==◌, ℕ, ◌+◌, ◌-◌, ◌/◌, ◌%◌, ◌<◌, ◌≤◌, Bool, false, List, Option, Some, None, length, map, nat_le, nat_lt, [], ◌∷◌, ◌++◌, if◌then◌else◌}
use Rattle.std.specs.List.{range_with_len}
use Rattle.propositional_logic.specs.Truth.{value_of}
use Rattle.letters_and_lassos.specs.Signals.{has}
use Rattle.letters_and_lassos.specs.declared.kinds.Kind.{Kind}
use Rattle.letters_and_lassos.specs.declared.kinds.Kind.TheVariants.{Mealy, Moore}
use Rattle.machine_model.specs.Automaton.{states_of}
use Rattle.machine_model.specs.Machine.{MachineModel, next_of, writes_of}
use Rattle.machine_model.specs.Problem.{automaton_of}
use Rattle.machine_model.specs.Problem as problem
use Rattle.machine_model.specs.declared.problems.Problem.{Problem}
use Rattle.product_bound.specs.Annotation.{bound_at, number_at}
use Rattle.annotation_encode.specs.BaseClauses.{each_below}
use Rattle.annotation_encode.specs.Variables.{letter_count, move_count, number_count, var_count, var_move, var_write, variables_of, write_count}

-- whether a pair with this number reaches c
abbrev pub reaches : Option ℕ → ℕ → Bool
reaches None c = false
reaches (Some number) c = nat_le c number

-- the assignment that a machine and an annotation of it stand for: of the moves and the writes those of the machine alone
-- are true, and of the numbers each up to the pair's (bounded synthesis of Finkbeiner and Schewe)
pub record IsAssignmentOf (p : Problem) (m : MachineModel) (numbers : List (Option ℕ)) (values : List Bool) : Type 0 where
  pub places : length values ≡ variables_of p
  pub moves : (t i to : ℕ) → t < p.size → i < letter_count p → to < p.size → value_of values (var_move p t i to) ≡ (next_of m t i == to)
  pub writes : (t i s : ℕ) → t < p.size → i < letter_count p → s < problem.writes_of p → value_of values (var_write p t i s) ≡ has (writes_of m t i) s
  pub counts : (t q c : ℕ) → t < p.size → q < states_of (automaton_of p) → c ≤ bound_at p q → value_of values (var_count p t q c) ≡ reaches (number_at p numbers t q) c

-- Its values in the order of the variables.

-- that of the row at k / size for the state k % size
abbrev pub move_value : Problem → MachineModel → ℕ → Bool
move_value p m k = next_of m (k / p.size / letter_count p) (k / p.size % letter_count p) == k % p.size

-- the letter that a machine of this kind writes at a place of its writes
abbrev pub written_at : Kind → ℕ → MachineModel → ℕ → ℕ
written_at Mealy letters m place = writes_of m (place / letters) (place % letters)
written_at Moore letters m place = writes_of m place 0

abbrev pub write_value : Problem → MachineModel → ℕ → Bool
write_value p m k = has (written_at p.kind (letter_count p) m (k / problem.writes_of p)) (k % problem.writes_of p)

-- that of a move, or behind them of a write
abbrev pub machine_value : Problem → MachineModel → ℕ → Bool
machine_value p m k = if nat_lt k (move_count p) then move_value p m k else write_value p m (k - move_count p)

abbrev pub machine_values : Problem → MachineModel → List Bool
machine_values p m = map (machine_value p m) (range_with_len 0 (move_count p + write_count p))

-- those of a pair, of the pairs of the machine's state t, and of all pairs
abbrev pub pair_values : Problem → List (Option ℕ) → ℕ → ℕ → List Bool
pair_values p numbers t q = each_below (number_count p q) (λ c. reaches (number_at p numbers t q) c ∷ [])

abbrev pub state_values : Problem → List (Option ℕ) → ℕ → List Bool
state_values p numbers t = each_below (states_of (automaton_of p)) (λ q. pair_values p numbers t q)

abbrev pub count_values : Problem → List (Option ℕ) → List Bool
count_values p numbers = each_below p.size (λ t. state_values p numbers t)

abbrev pub assigned_values : Problem → MachineModel → List (Option ℕ) → List Bool
assigned_values p m numbers = machine_values p m ++ count_values p numbers
