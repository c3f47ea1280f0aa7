-- Numbers in decimal notation. A numeral is a list of ASCII digits.
use Rattle.std.specs.Prelude.{◌≡◌, ℕ, ◌+◌, ◌-◌, ◌*◌, ◌^◌, ◌<◌, List, [], ◌∷◌, ◌++◌, length, slice_get, Some, IsTrue, take_while, decimal}
use Rattle.std.specs.Char.{is_ascii_digit}
use Rattle.std.specs.Str.{all_ascii_digits}

-- the longest run of digits that bytes begin with
abbrev pub digit_run : List ℕ → List ℕ
digit_run bytes = take_while is_ascii_digit bytes

-- the number that digits write: each has the weight of its place
abbrev pub decimal_value : List ℕ → ℕ
decimal_value [] = 0
decimal_value (c ∷ cs) = (c - 48) * 10 ^ length cs + decimal_value cs

-- These digits are how n is written: at least one digit, no leading zero but in 0 itself.
pub record IsNumeralOf (n : ℕ) (bytes : List ℕ) : Type 0 where
  pub digits : IsTrue (all_ascii_digits bytes)
  pub nonempty : 0 < length bytes
  pub no_leading_zero : slice_get bytes 0 ≡ Some 48 → length bytes ≡ 1
  pub value : decimal_value bytes ≡ n

-- a number below 2^64 has one numeral, the one that std's `decimal` gives
pub record NumeralLaw : Type 0 where
  pub is_numeral : (n : ℕ) → n < 2 ^ 64 → IsNumeralOf n (decimal n)
  pub only : (n : ℕ) (bytes : List ℕ) → n < 2 ^ 64 → IsNumeralOf n bytes → bytes ≡ decimal n

-- no digit comes next
abbrev pub NoDigitNext : List ℕ → Type 0
NoDigitNext bytes = digit_run bytes ≡ []

-- the run of digits of a numeral and what follows is the numeral, and its value is the number
pub record ReadBackLaw : Type 0 where
  pub run : (n : ℕ) (rest : List ℕ) → n < 2 ^ 64 → NoDigitNext rest → digit_run (decimal n ++ rest) ≡ decimal n
  pub value : (n : ℕ) → n < 2 ^ 64 → decimal_value (decimal n) ≡ n
