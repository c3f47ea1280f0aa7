use Rattle.std.specs.Prelude.{ℕ, ◌+◌, ◌-◌, ◌*◌, ◌/◌, ◌==◌, ◌^◌, Bool, ◌&&◌, ◌||◌, List, Option, Some, None, length, min, nat_le, if◌then◌else◌}
use Rattle.std.specs.List.{sum_by}
use Rattle.propositional_logic.specs.Literal.{Literal}
use Rattle.letters_and_lassos.specs.Signals.{has}
use Rattle.letters_and_lassos.specs.declared.cubes.Cube.{Cube}
use Rattle.machine_model.specs.Automaton.{states_of}
use Rattle.machine_model.specs.Problem.{automaton_of, reads_of, writes_of}
use Rattle.machine_model.specs.declared.automata.Edge.{Edge}
use Rattle.machine_model.specs.declared.problems.Problem.{Problem}
use Rattle.product_bound.specs.Annotation.{bound_at, leaves, rise_at}
use Rattle.annotation_encode.specs.BaseClauses.{fits_read, step_count, written_signal}
use Rattle.annotation_encode.specs.Count.{passing, target_count}
use Rattle.annotation_encode.specs.Variables.{counted_before}
use Rattle.letter_clauses.specs.BaseClauses.{base_clauses}
use Rattle.letter_clauses.specs.Letters.{letter_at}
use Rattle.letter_clauses.specs.Variables.{row_count}

-- Which sizes are worked on, over which letters (limits of this project).

-- how many base clauses there may be, how many literals in all, and how many letters in a list that hasn't all
abbrev pub most_clauses : ℕ
most_clauses = 4000000

abbrev pub most_literals : ℕ
most_literals = 40000000

abbrev pub most_letters : ℕ
most_letters = 64

-- the number of literals of some clauses in all
abbrev pub literals_of : List (List Literal) → ℕ
literals_of clauses = sum_by length clauses

-- whether a list has all letters of so many signals, or few enough
abbrev pub is_short_or_whole : ℕ → List ℕ → Bool
is_short_or_whole signals letters = nat_le (length letters) most_letters || (length letters == 2 ^ signals)

-- whether a problem's clauses over these letters are few enough
abbrev pub is_allowed : Problem → List ℕ → Bool
is_allowed p letters =
    is_short_or_whole (reads_of p) letters
    && (nat_le (length (base_clauses p letters)) most_clauses && nat_le (literals_of (base_clauses p letters)) most_literals)

-- the number of base clauses, where that is so
abbrev pub count_of : Problem → List ℕ → Option ℕ
count_of p letters = if is_allowed p letters then Some (length (base_clauses p letters)) else None

-- The parts of these numbers.

-- how many of the letters fit a cube
abbrev pub fitting_letters : Problem → List ℕ → Cube → ℕ
fitting_letters p letters cube = passing (length letters) (λ k. fits_read p cube (letter_at letters k))

-- whether a cube wants or forbids a signal
abbrev pub is_named : Cube → ℕ → Bool
is_named cube s = has cube.must s || has cube.not s

-- how many written signals it names
abbrev pub named_signals : Problem → Cube → ℕ
named_signals p cube = passing (writes_of p) (λ s. is_named cube (written_signal p s))

-- how many steps there are along an edge: from each state on each letter that fits, to each state to which it has clauses
abbrev pub steps_of : Problem → List ℕ → Edge → ℕ
steps_of p letters e = p.size * (fitting_letters p letters e.cube * target_count p e)

-- for how many numbers of the pair that is left the bound allows what the next pair has to reach
abbrev pub allowed_count : Problem → Edge → ℕ
allowed_count p e = if leaves p e.from e.to then 1 else min (step_count p e) (bound_at p e.to + 1 - rise_at (automaton_of p) e.to)

-- how many literals the clauses of a step have
abbrev pub step_literals : Problem → Edge → ℕ
step_literals p e = step_count p e * (named_signals p e.cube + 2) + allowed_count p e

-- how many clauses chain a pair's numbers, and how many order the states
abbrev pub chain_count : Problem → ℕ
chain_count p = p.size * (p.size * counted_before p (states_of (automaton_of p)))

abbrev pub order_count : Problem → List ℕ → ℕ
order_count p letters = row_count p letters * (p.size - 2)

-- how many literals these last have
abbrev pub order_literals : Problem → List ℕ → ℕ
order_literals p letters = (row_count p letters * (row_count p letters + 1) / 2) * (p.size - 2)

-- how many clauses are about no edge, and how many literals they have
abbrev pub clauses_beside : Problem → List ℕ → ℕ
clauses_beside p letters = row_count p letters + 1 + chain_count p + order_count p letters

abbrev pub literals_beside : Problem → List ℕ → ℕ
literals_beside p letters = row_count p letters * p.size + 1 + 2 * chain_count p + order_literals p letters
