-- Numbers by their digits, the last one first (this project's own).
use Rattle.std.specs.Prelude.{ℕ, zero, suc, ◌+◌, ◌-◌, ◌*◌, ◌^◌, List, length, nat_lt, slice_index_or, if◌then◌else◌}

-- the digit that has the weight 10 ^ place; 0 before the first one
abbrev pub digit_at : List ℕ → ℕ → ℕ
digit_at word place = if nat_lt place (length word) then slice_index_or word (length word - 1 - place) 48 - 48 else 0

-- the number that the last digits write
abbrev pub low : ℕ → List ℕ → ℕ
low zero word = 0
low (suc places) word = low places word + digit_at word places * 10 ^ places
