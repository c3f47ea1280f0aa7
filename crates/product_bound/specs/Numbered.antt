use Rattle.std.specs.Prelude.{◌==◌, ℕ, zero, suc, ◌+◌, ◌/◌, ◌%◌, ◌^◌, ◌<◌, ◌≤◌, List, [], ◌∷◌, ◌++◌, length, take, map, max, nat_lt, slice_index, slice_index_or, if◌then◌else◌}
use Rattle.std.specs.List.{range_with_len}
use Rattle.machine_model.specs.Machine.{MachineModel, next_of, writes_of}
use Rattle.machine_model.specs.declared.machines.Row.{Row}

-- the greatest next state of some rows, and 0 where there is none
abbrev pub greatest_next : List Row → ℕ
greatest_next [] = 0
greatest_next (row ∷ rows) = max row.next (greatest_next rows)

-- a numbered machine: each row's next state, rows taken in order of their place, is at most one more than the
-- greatest next state of the rows before it (this project's own)
abbrev pub IsNumbered : MachineModel → Type 0
IsNumbered m =
    (place : ℕ) → place < length m.table
    → (slice_index_or m.table place (record { next = 0; writes = 0 })).next ≤ greatest_next (take place m.table) + 1

-- the place of a state in a list of states, or the list's length where it isn't there
abbrev pub place_in : List ℕ → ℕ → ℕ
place_in [] s = 0
place_in (x ∷ xs) s = if x == s then 0 else (place_in xs s + 1)

-- a list of states with one more at its end, unless it is there already
abbrev pub with_state : List ℕ → ℕ → List ℕ
with_state states s = if nat_lt (place_in states s) (length states) then states else (states ++ s ∷ [])

-- the states of a machine that state 0 and the new table's rows before a place name, in the order in which they name
-- them: the new state t is the state at place t of this list
abbrev pub named_before : MachineModel → ℕ → List ℕ
named_before m zero = 0 ∷ []
named_before m (suc place) =
    let named = named_before m place in
    let t = place / 2 ^ m.reads in
    if nat_lt t (length named) then with_state named (next_of m (slice_index named t) (place % 2 ^ m.reads)) else named

-- the new row at a place: that of the old state, with its next state by its new number; the states that are never
-- named go to state 0 and write nothing
abbrev pub numbered_row : MachineModel → ℕ → Row
numbered_row m place =
    let named = named_before m place in
    let t = place / 2 ^ m.reads in
    let i = place % 2 ^ m.reads in
    let old = slice_index named t in
    if nat_lt t (length named)
    then (record { next = place_in named (next_of m old i); writes = writes_of m old i })
    else (record { next = 0; writes = 0 })

-- the machine with its states numbered as the rows first name them, from state 0 on (this project's own)
abbrev pub numbered_of : MachineModel → MachineModel
numbered_of m = record m { table = map (numbered_row m) (range_with_len 0 (length m.table)) }
