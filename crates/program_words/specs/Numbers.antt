-- Numbers among the words (this project's own).
use Rattle.std.specs.Prelude.{◌==◌, ◌&&◌, ◌||◌, ℕ, Bool, Option, Some, None, List, not, length, slice_index, nat_le, nat_lt, option_and_then, if◌then◌else◌}
use Rattle.std.specs.Char.{is_ascii_digit}
use Rattle.std.specs.List.{list_all}
use Rattle.names_and_numbers.specs.Numerals.{decimal_value}

-- decimal digits, at least one, and no leading zero but in 0 itself
abbrev pub is_numeral : List ℕ → Bool
is_numeral text =
    nat_lt 0 (length text) && ((length text == 1 || not (slice_index text 0 == 48)) && list_all is_ascii_digit text)

abbrev pub value_within : ℕ → List ℕ → Option ℕ
value_within most digits = if nat_le (decimal_value digits) most then Some (decimal_value digits) else None

-- the number that a word is, from the least to the most
abbrev pub number_in : ℕ → ℕ → List ℕ → Option ℕ
number_in least most text =
    if is_numeral text
    then option_and_then (λ n. if nat_le least n then Some n else None) (value_within most text)
    else None
