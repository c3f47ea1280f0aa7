use Rattle.std.proofs.Common.{◌≡◌, ℕ, ◌<◌, ◌≤◌, Bool, true, false, ◌&&◌, cond, Some, None, List, [], ◌∷◌, refl, sym, ap, ◌∙◌}
use Rattle.std.specs.Prelude.{take_while, option_and_then, nat_le, Result, Err, ◌↔◌}
use Rattle.std.specs.List.{list_all}
use Rattle.std.specs.Char.{is_ascii_digit}
use Rattle.std.proofs.lemmas.List.Sums.{take_while-cons}
use Rattle.std.proofs.lemmas.Bool.{le-leb, lt-leb}
use Rattle.std.specs.Cmp.{second_so}
use Rattle.names_and_numbers.specs.declared.number.NumberFault.{NumberFault}
use Rattle.names_and_numbers.specs.declared.number.NumberFault.TheVariants.{NoDigits, Range}
use Rattle.names_and_numbers.specs.Numerals.{digit_run, decimal_value}
use Rattle.aiger_text.specs.Words.{leads_well, is_numeral, number_within}

-- a list of which each element passes is its own longest run of such
passes : {X : Type 0} (p : X → Bool) (x : X) (xs : List X) (b : Bool) → p x ≡ b → (b && list_all p xs) ≡ true
    → (list_all p xs ≡ true → take_while p xs ≡ xs) → take_while p (x ∷ xs) ≡ x ∷ xs
passes p x xs true e h rest = take_while-cons p x xs ∙ ap (λ b. cond b (x ∷ take_while p xs) []) e ∙ ap (λ ys. x ∷ ys) (rest h)
passes p x xs false e h rest = absurd (cc)

pub run-all : {X : Type 0} (p : X → Bool) (xs : List X) → list_all p xs ≡ true → take_while p xs ≡ xs
run-all p [] h = refl
run-all p (x ∷ xs) h = passes p x xs (p x) refl h (run-all p xs)

pub digits-of_numeral : (word : List ℕ) → is_numeral word ≡ true → digit_run word ≡ word
digits-of_numeral word h = run-all is_ascii_digit word (second_so (leads_well word) (list_all is_ascii_digit word) h)

pub none-of_other : (most : ℕ) (word : List ℕ) → is_numeral word ≡ false → None ≡ number_within most word
none-of_other most word h =
    ap (λ b. option_and_then (λ n. cond (nat_le n most) (Some n) None) (cond b (Some (decimal_value word)) None)) (sym h)

pub numeral_is : (most : ℕ) (word : List ℕ) → is_numeral word ≡ true → number_within most word ≡ cond (nat_le (decimal_value word) most) (Some (decimal_value word)) None
numeral_is most word h =
    ap (λ b. option_and_then (λ n. cond (nat_le n most) (Some n) None) (cond b (Some (decimal_value word)) None)) h

pub found-number : (most n : ℕ) (word : List ℕ) → is_numeral word ≡ true → n ≡ decimal_value (digit_run word) → n ≤ most → Some n ≡ number_within most word
found-number most n word h value le =
    let same : n ≡ decimal_value word = value ∙ ap decimal_value (digits-of_numeral word h) in
    ap Some same ∙ ap (λ b. cond b (Some (decimal_value word)) None) (sym (le-leb (decimal_value word) most (rw same at le)))
    ∙ sym (numeral_is most word h)

pub none-of_greater : (most : ℕ) (word : List ℕ) → is_numeral word ≡ true → most < decimal_value (digit_run word) → None ≡ number_within most word
none-of_greater most word h greater =
    let same : decimal_value (digit_run word) ≡ decimal_value word = ap decimal_value (digits-of_numeral word h) in
    ap (λ b. cond b (Some (decimal_value word)) None) (sym (lt-leb (decimal_value word) most (rw same at greater)))
    ∙ sym (numeral_is most word h)

-- the reader of numbers refuses no numeral but one that is too large
pub none-of_fault : (most : ℕ) (word : List ℕ) (fault : NumberFault) (result : Result ℕ NumberFault) → is_numeral word ≡ true → result ≡ Err fault
    → (result ≡ Err NoDigits ↔ digit_run word ≡ []) → (result ≡ Err Range ↔ most < decimal_value (digit_run word)) → None ≡ number_within most word
none-of_fault most word NoDigits result h is no_digits range =
    let none : word ≡ [] = sym (digits-of_numeral word h) ∙ no_digits.0 is in
    let e : is_numeral [] ≡ true = ap is_numeral (sym none) ∙ h in
    absurd (cc)
none-of_fault most word Range result h is no_digits range = none-of_greater most word h (range.0 is)
