-- Numerals as they are read.
use Rattle.std.proofs.Common.{◌≡◌, ◌==◌, ◌↔◌, ℕ, ◌<◌, ◌≤◌, Bool, true, false, List, [], length, slice_index, Ok, Err, Result, nat_le, nat_lt, IfOk, IsErrOf, arith, sym, ap, ◌∙◌, refl, append-nil, not, ◌&&◌, ◌||◌}
use Rattle.std.proofs.lemmas.Grind.{common_steps}
use Rattle.std.specs.Char.{is_ascii_digit}
use Rattle.std.specs.List.{list_all}
use Rattle.std.specs.Result.{result_ok}
use Rattle.names_and_numbers.specs.Numerals.{decimal_value, digit_run}
use Rattle.names_and_numbers.specs.declared.number.NumberFault.{NumberFault}
use Rattle.names_and_numbers.specs.declared.number.NumberFault.TheVariants.{NoDigits, Range}
use Rattle.names_and_numbers.proofs.NumeralLemmas.{digit_run-append, digits_are}
use Rattle.program_words.specs.Numbers.{is_numeral, value_within}

-- digits are the whole run
run_is_whole : (text : List ℕ) → list_all is_ascii_digit text ≡ true → digit_run text ≡ text
run_is_whole text digits = ap digit_run (sym (append-nil text)) ∙ digit_run-append text [] (sym (digits_are text) ∙ digits) refl

last_test : (some start digits : Bool) → (some && (start && digits)) ≡ true → (some ≡ true) × (digits ≡ true)
last_test true true true h = (refl, refl)
last_test true true false h = cc
last_test true false digits h = cc
last_test false start digits h = cc

-- what is read of a numeral is its value, where it is small enough
pub value_read : (text : List ℕ) (most : ℕ) (r : Result ℕ NumberFault) → is_numeral text ≡ true →
    IfOk r (λ n. n ≡ decimal_value (digit_run text)) → IfOk r (λ n. n ≤ most) →
    (IsErrOf r NoDigits ↔ (digit_run text ≡ [])) → (IsErrOf r Range ↔ (most < decimal_value (digit_run text))) →
    result_ok r ≡ value_within most text
value_read text most r numeral value within no_digits range = by r value within no_digits range
  where
    tests : (nat_lt 0 (length text) ≡ true) × (list_all is_ascii_digit text ≡ true)
    tests = last_test (nat_lt 0 (length text)) (length text == 1 || not (slice_index text 0 == 48)) (list_all is_ascii_digit text) numeral

    whole : digit_run text ≡ text
    whole = run_is_whole text tests.1

    by : (r : Result ℕ NumberFault) → IfOk r (λ n. n ≡ decimal_value (digit_run text)) → IfOk r (λ n. n ≤ most) →
        (IsErrOf r NoDigits ↔ (digit_run text ≡ [])) → (IsErrOf r Range ↔ (most < decimal_value (digit_run text))) →
        result_ok r ≡ value_within most text
    by (Ok n) value within no_digits range =
        let same : n ≡ decimal_value text = value ∙ ap decimal_value whole in
        let small : nat_le (decimal_value text) most ≡ true = grind (arith, common_steps) in
        rw (small, same) refl
    by (Err NoDigits) value within no_digits range =
        let none : digit_run text ≡ [] = no_digits.0 refl in
        let empty : text ≡ [] = sym whole ∙ none in
        let bad : nat_lt 0 0 ≡ true = ap (λ t. nat_lt 0 (length t)) (sym empty) ∙ tests.0 in cc
    by (Err Range) value within no_digits range =
        let large : most < decimal_value text = rw (← whole) (range.0 refl) in
        let test : nat_le (decimal_value text) most ≡ false = grind (arith, common_steps) in
        rw test refl
