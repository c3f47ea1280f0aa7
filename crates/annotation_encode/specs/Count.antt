use Rattle.std.specs.Prelude.{◌≡◌, ◌==◌, ℕ, zero, suc, ◌+◌, ◌-◌, ◌*◌, ◌<◌, ◌≤◌, Bool, not, ◌&&◌, Option, Some, None, is_some, length, nat_le, if◌then◌else◌}
use Rattle.letters_and_lassos.specs.Signals.{has}
use Rattle.letters_and_lassos.specs.declared.cubes.Cube.{Cube}
use Rattle.machine_model.specs.Automaton.{rejects, states_of}
use Rattle.machine_model.specs.Problem.{automaton_of, sized, counts_locally, numbers_states}
use Rattle.machine_model.specs.declared.automata.Edge.{Edge}
use Rattle.machine_model.specs.declared.problems.Problem.{Problem}
use Rattle.annotation_encode.specs.BaseClauses.{base_clauses, read_signal, row_count}
use Rattle.annotation_encode.specs.Variables.{counted_before}

-- how many base clauses a problem may have: a million, and where numbers count by component four million (limits of this project)
abbrev pub most_clauses : Problem → ℕ
most_clauses p = if counts_locally p then 4000000 else 1000000

-- the number of base clauses, unless it passes that limit
abbrev pub count_of : Problem → Option ℕ
count_of p = if nat_le (length (base_clauses p)) (most_clauses p) then Some (length (base_clauses p)) else None

-- the greatest number of states, of those up to this one, for which the problem has so few base clauses, and 0 where it
-- has more for each (this project's own)
unfoldable pub allowed_sizes : Problem → ℕ → ℕ
allowed_sizes p zero = 0
allowed_sizes p (suc n) = if is_some (count_of (sized p (suc n))) then suc n else allowed_sizes p n

-- up to that number each has a count, and above it none has
pub record AreCounted (p : Problem) (max : ℕ) : Type 0 where
  pub within : allowed_sizes p max ≤ max
  pub counted : (n : ℕ) → 1 ≤ n → n ≤ allowed_sizes p max → count_of (sized p n) ≡ Some (length (base_clauses (sized p n)))
  pub uncounted : (n : ℕ) → allowed_sizes p max < n → n ≤ max → count_of (sized p n) ≡ None

-- for more states there are no fewer base clauses, so the allowed sizes are those from 1 on (this project's own)
pub record SizesRise : Type 0 where
  pub clauses : (p : Problem) (n m : ℕ) → n ≤ m → length (base_clauses (sized p n)) ≤ length (base_clauses (sized p m))
  pub allowed : (p : Problem) (max : ℕ) → AreCounted p max

-- The parts of that number.

-- how many of the numbers below n pass a test
abbrev pub passing : ℕ → (ℕ → Bool) → ℕ
passing zero test = 0
passing (suc n) test = passing n test + (if test n then 1 else 0)

-- whether a cube neither wants nor forbids a signal
abbrev pub is_free : Cube → ℕ → Bool
is_free cube s = not (has cube.must s) && not (has cube.not s)

-- how many of the first n read signals a cube leaves free
abbrev pub free_below : Problem → Cube → ℕ → ℕ
free_below p cube zero = 0
free_below p cube (suc n) = free_below p cube n + (if is_free cube (read_signal p n) then 1 else 0)

-- to how many states an edge has clauses, from each state: to all, or to all but that state
abbrev pub target_count : Problem → Edge → ℕ
target_count p e = if (e.from == e.to) && not (rejects (automaton_of p) e.to) then (p.size - 1) else p.size

-- how many clauses chain a pair's numbers
abbrev pub chain_count : Problem → ℕ
chain_count p = if counts_locally p then (p.size * (p.size * counted_before p (states_of (automaton_of p)))) else 0

-- how many clauses order the states
abbrev pub order_count : Problem → ℕ
order_count p = if numbers_states p then (row_count p * (p.size - 2)) else 0
