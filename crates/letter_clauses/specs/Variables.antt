use Rattle.std.specs.Prelude.{ℕ, ◌+◌, ◌*◌, List, length}
use Rattle.machine_model.specs.Problem.{writes_of}
use Rattle.machine_model.specs.declared.problems.Problem.{Problem}
use Rattle.annotation_encode.specs.BaseClauses.{row_move}
use Rattle.annotation_encode.specs.Variables.{numbers_before, state_numbers, write_place, write_places}

-- The variables are numbered as those of version 3, with the place of a letter in the list in place of its number, and the
-- list's length in place of the number of all letters (this project's own).

-- the number of rows: one for each state and each letter of the list
abbrev pub row_count : Problem → List ℕ → ℕ
row_count p letters = p.size * length letters

-- the place of state t on the letter at place k of the list
abbrev pub row_place : List ℕ → ℕ → ℕ → ℕ
row_place letters t k = t * length letters + k

-- in state t on this letter the machine moves to state `to`
abbrev pub var_move : Problem → List ℕ → ℕ → ℕ → ℕ → ℕ
var_move p letters t k to = row_move p (row_place letters t k) to

-- how many variables say where it moves
abbrev pub move_count : Problem → List ℕ → ℕ
move_count p letters = row_count p letters * p.size

-- in state t on this letter it writes signal s
abbrev pub var_write : Problem → List ℕ → ℕ → ℕ → ℕ → ℕ
var_write p letters t k s = move_count p letters + 1 + write_place p.kind (length letters) t k * writes_of p + s

-- how many variables say what it writes
abbrev pub write_count : Problem → List ℕ → ℕ
write_count p letters = write_places p.kind (length letters) p.size * writes_of p

-- the number of the pair (t, q) is at least c
abbrev pub var_count : Problem → List ℕ → ℕ → ℕ → ℕ → ℕ
var_count p letters t q c = move_count p letters + write_count p letters + 1 + t * state_numbers p + numbers_before p q + c

-- how many variables there are
abbrev pub variables_of : Problem → List ℕ → ℕ
variables_of p letters = move_count p letters + write_count p letters + p.size * state_numbers p
