-- Numbers and pieces of a file's lines (AIGER 1.9).
use Rattle.std.specs.Prelude.{ℕ, ◌+◌, ◌==◌, take, drop, option_map, Bool, true, false, not, ◌&&◌, Option, Some, None, List, [], ◌∷◌, nat_le, option_and_then, if◌then◌else◌}
use Rattle.std.specs.List.{position_from, list_all}
use Rattle.std.specs.Char.{is_ascii_digit}
use Rattle.names_and_numbers.specs.Numerals.{decimal_value}

abbrev pub is_byte : ℕ → ℕ → Bool
is_byte separator b = b == separator

-- what stands before the first byte of this code and what stands behind it, where there is one
abbrev pub cut_at : ℕ → List ℕ → Option (List ℕ × List ℕ)
cut_at separator bytes =
    option_map (λ place. (take place bytes, drop (place + 1) bytes)) (position_from (is_byte separator) 0 bytes)

-- it is one byte, or begins with another than `0`
abbrev pub leads_well : List ℕ → Bool
leads_well [] = false
leads_well (d ∷ []) = true
leads_well (d ∷ e ∷ ds) = not (d == 48)

-- a number without leading zeros
abbrev pub is_numeral : List ℕ → Bool
is_numeral word = leads_well word && list_all is_ascii_digit word

-- the number that a word writes
abbrev pub numeral_of : List ℕ → Option ℕ
numeral_of word = if is_numeral word then Some (decimal_value word) else None

-- the same where it is at most this
abbrev pub number_within : ℕ → List ℕ → Option ℕ
number_within most word = option_and_then (λ n. if nat_le n most then Some n else None) (numeral_of word)
