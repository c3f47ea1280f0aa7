use Rattle.std.specs.Prelude.{◌≡◌, ℕ, false, zero, suc, ◌+◌, ◌*◌, ◌^◌}
use Rattle.letters_and_lassos.specs.declared.kinds.Kind.{Kind}
use Rattle.letters_and_lassos.specs.declared.kinds.Kind.TheVariants.{Mealy, Moore}
use Rattle.machine_model.specs.Automaton.{states_of}
use Rattle.machine_model.specs.Problem.{automaton_of, counts_locally, reads_of, writes_of}
use Rattle.machine_model.specs.declared.problems.Problem.{Problem}
use Rattle.product_bound.specs.Annotation.{bound_at, bound_of, rejecting_at}

-- The variables of the base clauses are numbered from 1: first where the machine moves, then what it writes, then which
-- numbers the annotation reaches (bounded synthesis of Finkbeiner and Schewe; the numbering is this project's own).

-- the number of letters that the machine reads
abbrev pub letter_count : Problem → ℕ
letter_count p = 2 ^ reads_of p

-- how many numbers a pair of the automaton's state q may have: 0 to the bound
abbrev pub number_count : Problem → ℕ → ℕ
number_count p q = bound_at p q + 1

-- the place of state t on read letter i
abbrev pub row_place : Problem → ℕ → ℕ → ℕ
row_place p t i = t * letter_count p + i

-- in state t on read letter i the machine moves to state `to`
abbrev pub var_move : Problem → ℕ → ℕ → ℕ → ℕ
var_move p t i to = 1 + row_place p t i * p.size + to

-- how many variables say where it moves
abbrev pub move_count : Problem → ℕ
move_count p = p.size * letter_count p * p.size

-- the place of what state t writes on read letter i: what a Moore machine writes doesn't depend on the letter
abbrev pub write_place : Kind → ℕ → ℕ → ℕ → ℕ
write_place Mealy letters t i = t * letters + i
write_place Moore letters t i = t

-- how many such places there are
abbrev pub write_places : Kind → ℕ → ℕ → ℕ
write_places Mealy letters states = states * letters
write_places Moore letters states = states

-- in state t on read letter i the machine writes signal s
abbrev pub var_write : Problem → ℕ → ℕ → ℕ → ℕ
var_write p t i s = move_count p + 1 + write_place p.kind (letter_count p) t i * writes_of p + s

-- how many variables say what it writes
abbrev pub write_count : Problem → ℕ
write_count p = write_places p.kind (letter_count p) p.size * writes_of p

-- the sum of the values at the numbers below n
unfoldable pub sum_first : (ℕ → ℕ) → ℕ → ℕ
sum_first f zero = 0
sum_first f (suc n) = sum_first f n + f n

-- how many rejecting states are counted in the automaton's states before q, together
abbrev pub counted_before : Problem → ℕ → ℕ
counted_before p q = sum_first (rejecting_at p) q

-- how many variables say, for one state of the machine, which numbers are reached in the automaton's states before q
abbrev pub numbers_before : Problem → ℕ → ℕ
numbers_before p q = p.size * counted_before p q + q

-- and in all of them
abbrev pub state_numbers : Problem → ℕ
state_numbers p = numbers_before p (states_of (automaton_of p))

-- the number of the pair (t, q) is at least c
abbrev pub var_count : Problem → ℕ → ℕ → ℕ → ℕ
var_count p t q c = move_count p + write_count p + 1 + t * state_numbers p + numbers_before p q + c

-- how many variables there are
abbrev pub variables_of : Problem → ℕ
variables_of p = move_count p + write_count p + p.size * state_numbers p

-- where all rejecting states are counted in each state, each pair has one number more than the bound (this project's own)
abbrev pub WholeNumbers : Type 0
WholeNumbers = (p : Problem) (q : ℕ) → counts_locally p ≡ false → numbers_before p q ≡ q * (bound_of p + 1)
