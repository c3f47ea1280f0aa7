-- Runs of digits and their values.
use Rattle.std.proofs.Common.{◌≡◌, ℕ, ◌+◌, ◌-◌, ◌*◌, ◌^◌, ◌<◌, ◌≤◌, Bool, true, false, cond, List, [], ◌∷◌, ◌++◌, length, get_or, take, refl, ap, sym, arith, Some, slice_get, decimal, subst, ⊎_elim, ◌&&◌}
use Rattle.std.proofs.lemmas.Bool.{cases_lt}
use Rattle.std.specs.Char.{is_ascii_digit}
use Rattle.std.specs.Int.{IsInRange}
use Rattle.std.specs.Str.{all_ascii_digits}
use Rattle.std.specs.Char.{digit_value}
use Rattle.std.specs.Str.Parse.{digits_value, AllDigits}
use Rattle.std.proofs.lemmas.List.{get_or-take, length-take-le}
use Rattle.std.proofs.lemmas.Fmt.{digits_decimal, digits_value-decimal, decimal-digits_value, decimal_nonempty, decimal_digit, first_decimal}
use Rattle.std.proofs.lemmas.Int.Digits.{digits_value_more}
use Rattle.std.proofs.lemmas.List.Sums.{take_while-cons}
use Rattle.std.proofs.lemmas.Str.{digit_value_digit}
use Rattle.std.proofs.lemmas.Str.Parse.{digits_value-take-le, tells_by_index, IsNumeralModel, numerals_by_weight, numerals_by_value, tells_all_ascii_digits, digit_at}
use Rattle.std.specs.List.{list_all}
use Rattle.names_and_numbers.specs.Numerals.{digit_run, decimal_value, NoDigitNext, IsNumeralOf}

own : IsNumeralModel (λ ds. all_ascii_digits ds ≡ true) decimal_value
own = numerals_by_weight _ tells_all_ascii_digits decimal_value (record { empty = refl; more = λ c cs r. refl })

-- the two tests for digits are one
pub digits_are : (word : List ℕ) → list_all is_ascii_digit word ≡ all_ascii_digits word
digits_are [] = refl
digits_are (c ∷ cs) = ap (λ b. is_ascii_digit c && b) (digits_are cs)

digits-cond : (d : Bool) (b : ℕ) (run : List ℕ) → is_ascii_digit b ≡ d → all_ascii_digits run ≡ true → all_ascii_digits (cond d (b ∷ run) []) ≡ true
digits-cond true b run e h = grind (arith)
digits-cond false b run e h = refl

-- a run of digits is digits
pub all_digits-digit_run : (bytes : List ℕ) → all_ascii_digits (digit_run bytes) ≡ true
all_digits-digit_run [] = refl
all_digits-digit_run (b ∷ bs) =
    rw (take_while-cons is_ascii_digit b bs) (digits-cond (is_ascii_digit b) b (digit_run bs) refl (all_digits-digit_run bs))

-- digits before something else are the run
pub digit_run-append : (digits rest : List ℕ) → all_ascii_digits digits ≡ true → NoDigitNext rest → digit_run (digits ++ rest) ≡ digits
digit_run-append [] rest all none = none
digit_run-append (c ∷ cs) rest all none =
    let first : is_ascii_digit c ≡ true = grind arith in
    let others : all_ascii_digits cs ≡ true = grind arith in
    rw (take_while-cons is_ascii_digit c (cs ++ rest), first, digit_run-append cs rest others none) refl

module _ (digits : List ℕ) (all : all_ascii_digits digits ≡ true) where
  -- each of the digits is one
  pub digit_at_place : (i : ℕ) → i < length digits → IsInRange 48 57 (get_or digits i 0)
  digit_at_place i below = digit_at digits i (own.to digits all) below

  all_digits-take : (i : ℕ) → i ≤ length digits → AllDigits 10 (take i digits)
  all_digits-take i within =
      let by_index : IsNumeralModel (λ ds. (k : ℕ) → k < length ds → IsInRange 48 57 (get_or ds k 0)) (digits_value 10) = numerals_by_value _ tells_by_index in
      by_index.to (take i digits) (λ k below.
      let before : k < i = omega (arith, length-take-le i digits within) in
      rw (get_or-take i digits k 0 before) (digit_at_place k (omega arith)))

  value-take : (i : ℕ) → i ≤ length digits → decimal_value (take i digits) ≡ digits_value 10 (take i digits)
  value-take i within = own.same (take i digits) (all_digits-take i within)

  -- one more digit
  pub decimal_value_more : (i : ℕ) → i < length digits → decimal_value (take (i + 1) digits) ≡ decimal_value (take i digits) * 10 + (get_or digits i 0 - 48)
  decimal_value_more i below =
      let digit : digit_value (get_or digits i 0) + 48 ≡ get_or digits i 0 = digit_value_digit _ (digit_at_place i below) in
      omega (arith, value-take i (omega arith), value-take (i + 1) (omega arith), digits_value_more 10 digits i below)

  -- a front of the digits has no greater value
  pub decimal_value-take-le : (i : ℕ) → i ≤ length digits → decimal_value (take i digits) ≤ decimal_value digits
  decimal_value-take-le i within =
      omega (arith, value-take i within, own.same digits (own.to digits all), digits_value-take-le 10 digits i (omega arith))

-- the first byte, if there is one, in both spellings
first_byte : (bytes : List ℕ) (b : ℕ) → slice_get bytes 0 ≡ Some b → get_or bytes 0 0 ≡ b
first_byte [] b e = absurd (cc)
first_byte (c ∷ cs) b e = cc

first_byte-get : (bytes : List ℕ) (b : ℕ) → 0 < length bytes → get_or bytes 0 0 ≡ b → slice_get bytes 0 ≡ Some b
first_byte-get [] b nonempty e = absurd (omega arith)
first_byte-get (c ∷ cs) b nonempty e = cc

no_leading_zero-decimal : (n : ℕ) → n < 2 ^ 64 → slice_get (decimal n) 0 ≡ Some 48 → length (decimal n) ≡ 1
no_leading_zero-decimal n small zero =
    ⊎_elim
    (λ positive. let first = first_byte (decimal n) 48 zero in absurd (omega (arith, first_decimal n positive small)))
    (λ none. let digit : n < 10 = omega arith in ap length (decimal_digit n digit))
    (cases_lt 0 n)

-- what is written of a number is its numeral
pub decimal_is_numeral : (n : ℕ) → n < 2 ^ 64 → IsNumeralOf n (decimal n)
decimal_is_numeral n small = record {
  digits = digits_decimal own n small;
  nonempty = decimal_nonempty n small;
  no_leading_zero = no_leading_zero-decimal n small;
  value = digits_value-decimal own n small;
}

pub numeral_is_decimal : (n : ℕ) (bytes : List ℕ) → n < 2 ^ 64 → IsNumeralOf n bytes → bytes ≡ decimal n
numeral_is_decimal n bytes small numeral =
    let from : decimal (decimal_value bytes) ≡ bytes =
    decimal-digits_value own bytes numeral.digits numeral.nonempty (λ zero. numeral.no_leading_zero (first_byte-get bytes 48 numeral.nonempty zero)) (omega arith) in
    sym (subst (λ (m : ℕ). decimal m ≡ bytes) numeral.value from)
