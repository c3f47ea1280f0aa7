-- How a number at the front of bytes is read.
use Rattle.std.proofs.Common.{◌≡◌, ◌≢◌, ℕ, zero, suc, ◌-◌, ◌<◌, ◌≤◌, ◌^◌, Bool, true, false, ◌&&◌, nat_lt, nat_eq, List, [], ◌∷◌, ◌++◌, Some, Result, Ok, Err, length, take, drop, get_or, decimal, slice_get, refl, sym, ap, ◌∙◌, true≢false, arith}
use Rattle.std.specs.Prelude.{IsErrOf, ◌↔◌}
use Rattle.std.specs.Char.{is_ascii_digit}
use Rattle.std.specs.List.{prefix_len}
use Rattle.std.proofs.lemmas.Bool.Decides.{Decides-eqb}
use borrow.Author.Tests.{ltb-true, ltb-false}
use Rattle.std.specs.Cmp.{first_so, second_so}
use Rattle.std.proofs.lemmas.Option.{slice_get-get_or}
use Rattle.std.proofs.lemmas.List.{take-append-drop, length-drop, take_all}
use Rattle.std.proofs.Math.Seq.{drop-append_seam}
use Rattle.names_and_numbers.specs.declared.number.NumberFault.{NumberFault}
use Rattle.names_and_numbers.specs.declared.number.NumberFault.TheVariants.{NoDigits, Range}
use Rattle.names_and_numbers.specs.Numerals.{digit_run, decimal_value}
use Rattle.names_and_numbers.specs.Reading.{Reading, moved}
use Rattle.names_and_numbers.proofs.NumeralLemmas.{all_digits-digit_run, decimal_is_numeral, numeral_is_decimal}
use Rattle.refutation_log.specs.Read.{StatesNumber}
use Rattle.refutation_log.proofs.Words.{run_of_number}

take_length_take : (k : ℕ) (xs : List ℕ) → take (length (take k xs)) xs ≡ take k xs
take_length_take zero xs = refl
take_length_take (suc k) [] = refl
take_length_take (suc k) (x ∷ xs) = ap (λ ys. x ∷ ys) (take_length_take k xs)

-- the bytes of a run, cut off at its length
pub run_taken : (bytes : List ℕ) → take (length (digit_run bytes)) bytes ≡ digit_run bytes
run_taken bytes = take_length_take (prefix_len is_ascii_digit bytes) bytes

-- what is left of a list, as a slice reads it
pub slice_left : (n : ℕ) (bytes : List ℕ) → take (length bytes - n) (drop n bytes) ≡ drop n bytes
slice_left n bytes = let len = length-drop n bytes in take_all (length bytes - n) (drop n bytes) (omega arith)

-- the place after a run
pub at_run : (bytes : List ℕ) (start after : Reading) (at : ℕ) → start ≡ record { taken = []; left = bytes } → after ≡ moved start (length (digit_run start.left))
    → at ≡ length after.taken → at ≡ length (digit_run bytes)
at_run bytes start after at s m a =
    a ∙ ap (λ (r : Reading). length r.taken) m ∙ ap (λ (r : Reading). length (moved r (length (digit_run r.left))).taken) s ∙ ap length (run_taken bytes)

left_of_start : (bytes : List ℕ) (start : Reading) → start ≡ record { taken = []; left = bytes } → start.left ≡ bytes
left_of_start bytes start s = ap (λ (r : Reading). r.left) s

module _ (bytes : List ℕ) (most : ℕ) (below : most < 2 ^ 64) where
  -- a stated number is the run of digits
  stated_run : (n : ℕ) (rest : List ℕ) → StatesNumber most bytes n rest → digit_run bytes ≡ decimal n
  stated_run n rest h =
      let small = h.small in
      ap digit_run h.text ∙ run_of_number n (32 ∷ rest) (omega arith) refl

  pub unread : (start : Reading) (r : Result ℕ NumberFault) (f : NumberFault) → start ≡ record { taken = []; left = bytes } → r ≡ Err f
      → IsErrOf r NoDigits ↔ (digit_run start.left ≡ []) → IsErrOf r Range ↔ (most < decimal_value (digit_run start.left))
      → (n : ℕ) (rest : List ℕ) → StatesNumber most bytes n rest → ⊥
  unread start r NoDigits s e none range n rest h =
      let small = h.small in
      let empty : decimal n ≡ [] = sym (stated_run n rest h) ∙ ap digit_run (sym (left_of_start bytes start s)) ∙ none.0 e in
      let some = (decimal_is_numeral n (omega arith)).nonempty in
      omega (arith, some, ap length empty)
  unread start r Range s e none range n rest h =
      let small = h.small in
      let big = range.0 e in
      let value : decimal_value (digit_run start.left) ≡ n =
      ap (λ b. decimal_value (digit_run b)) (left_of_start bytes start s) ∙ ap decimal_value (stated_run n rest h) ∙ (decimal_is_numeral n (omega arith)).value in
      omega (arith, big, value)

  pub zero_leads : (at : ℕ) → at ≡ length (digit_run bytes) → true ≡ (nat_lt 1 (length (take at bytes)) && nat_eq (get_or (take at bytes) 0 0) 48)
      → (n : ℕ) (rest : List ℕ) → StatesNumber most bytes n rest → ⊥
  zero_leads at a h n rest s =
      let small = s.small in
      let run : take at bytes ≡ decimal n = ap (λ k. take k bytes) a ∙ run_taken bytes ∙ stated_run n rest s in
      let both : (nat_lt 1 (length (decimal n)) && nat_eq (get_or (decimal n) 0 0) 48) ≡ true =
      ap (λ ds. nat_lt 1 (length ds) && nat_eq (get_or ds 0 0) 48) (sym run) ∙ sym h in
      let long : 1 < length (decimal n) = ltb-true 1 (length (decimal n)) (first_so _ _ both) in
      let first : get_or (decimal n) 0 0 ≡ 48 = (Decides-eqb (get_or (decimal n) 0 0) 48).0 (second_so _ _ both) in
      let one = (decimal_is_numeral n (omega arith)).no_leading_zero (slice_get-get_or (decimal n) 0 0 (omega arith) ∙ ap Some first) in
      omega arith

  pub no_space : (at : ℕ) → at ≡ length (digit_run bytes) → ((rest : List ℕ) → take (length bytes - at) (drop at bytes) ≢ (32 ∷ []) ++ rest)
      → (n : ℕ) (rest : List ℕ) → StatesNumber most bytes n rest → ⊥
  no_space at a none n rest s =
      let len : at ≡ length (decimal n) = a ∙ ap length (stated_run n rest s) in
      none rest (slice_left at bytes ∙ ap (λ b. drop at b) s.text ∙ ap (λ k. drop k (decimal n ++ 32 ∷ rest)) len ∙ drop-append_seam (decimal n) (32 ∷ rest))

  pub number_read : (start : Reading) (r : Result ℕ NumberFault) (n at : ℕ) (rest : List ℕ) → start ≡ record { taken = []; left = bytes } → r ≡ Ok n
      → n ≡ decimal_value (digit_run start.left) → n ≤ most → IsErrOf r NoDigits ↔ (digit_run start.left ≡ [])
      → at ≡ length (digit_run bytes) → false ≡ (nat_lt 1 (length (take at bytes)) && nat_eq (get_or (take at bytes) 0 0) 48)
      → take (length bytes - at) (drop at bytes) ≡ (32 ∷ []) ++ rest → StatesNumber most bytes n rest
  number_read start r n at rest s e value small none a f after = record {
    small = small;
    text = sym (take-append-drop at bytes) ∙ ap (λ b. take at bytes ++ b) (sym (slice_left at bytes) ∙ after) ∙ ap (λ b. b ++ 32 ∷ rest) (run ∙ numeral);
  }
    where
      run : take at bytes ≡ digit_run bytes
      run = ap (λ k. take k bytes) a ∙ run_taken bytes

      not_both : (b c : Bool) → false ≡ (b && c) → b ≡ true → c ≡ true → ⊥
      not_both b c h p q = true≢false (sym (ap (λ x. x && c) p ∙ q) ∙ sym h)

      nothing : (xs : List ℕ) → 0 ≡ length xs → xs ≡ []
      nothing [] h = refl
      nothing (x ∷ xs) h = absurd (omega arith)

      apart : (q : Result ℕ NumberFault) → q ≡ Ok n → q ≡ Err NoDigits → ⊥
      apart q x y = absurd (cc)

      some : (k : ℕ) → k ≡ length (digit_run bytes) → 0 < k
      some zero z = absurd (apart r e (none.1 (ap digit_run (left_of_start bytes start s) ∙ nothing (digit_run bytes) z)))
      some (suc k) z = omega arith

      first : (xs : List ℕ) → slice_get xs 0 ≡ Some 48 → get_or xs 0 0 ≡ 48
      first [] h = absurd (cc)
      first (x ∷ xs) h = cc

      one : (xs : List ℕ) → 0 < length xs → false ≡ (nat_lt 1 (length xs) && nat_eq (get_or xs 0 0) 48) → slice_get xs 0 ≡ Some 48 → length xs ≡ 1
      one xs lt g h = by (nat_lt 1 (length xs)) refl
        where
          by : (b : Bool) → nat_lt 1 (length xs) ≡ b → length xs ≡ 1
          by true t = absurd (not_both _ _ g t ((Decides-eqb (get_or xs 0 0) 48).1 (first xs h)))
          by false t = let le = ltb-false 1 (length xs) t in omega arith

      numeral : digit_run bytes ≡ decimal n
      numeral = numeral_is_decimal n (digit_run bytes) (omega arith) (record {
        digits = all_digits-digit_run bytes;
        nonempty = let lt = some at a in omega arith;
        no_leading_zero = one (digit_run bytes) (let lt = some at a in omega arith) (f ∙ ap (λ ds. nat_lt 1 (length ds) && nat_eq (get_or ds 0 0) 48) run);
        value = ap (λ b. decimal_value (digit_run b)) (sym (left_of_start bytes start s)) ∙ sym value;
      })
