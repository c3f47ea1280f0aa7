use Rattle.std.proofs.Common.{◌≡◌, ℕ, zero, suc, ◌+◌, ◌<◌, ◌≤◌, Bool, true, false, not, cond, eqb, min, Some, None, List, [], ◌∷◌, length, get_or, drop, refl, sym, ap, ◌∙◌, arith}
use Rattle.std.specs.Prelude.{map, Result, Ok, Err, nat_le, nat_lt, option_and_then}
use Rattle.std.specs.List.{list_all}
use Rattle.std.specs.Char.{is_ascii_digit}
use Rattle.std.proofs.lemmas.Bool.{le-leb, le-ltb, ltb-false, eqb-true, leb-false, and_left, and_right}
use Rattle.std.specs.Cmp.{first_so, second_so}
use Rattle.text_limits.specs.declared.TheConstants.{CIRCUIT_VARIABLES}
use Rattle.names_and_numbers.specs.Numerals.{decimal_value}
use Rattle.aiger_text.specs.declared.counts.Counts.{Counts}
use Rattle.aiger_text.specs.declared.faults.CircuitFault.{CircuitFault}
use Rattle.aiger_text.specs.declared.faults.CircuitFault.TheVariants.{BadHeader, Unsupported, TooLarge}
use Rattle.aiger_text.specs.Words.{is_numeral, leads_well, number_within}
use Rattle.aiger_text.specs.CircuitFile.{Header, header_of_numbers, header_of_words, counts_in}
use Rattle.aiger_text.proofs.WordLemmas.{numeral_is}

pub fails_at : {X Y : Type 0} (p : Y → Bool) (f : X → Y) (xs : List X) (k : ℕ) (d : X) → k < length xs → p (f (get_or xs k d)) ≡ false → list_all p (map f xs) ≡ false
fails_at p f [] k d h e = absurd (omega arith)
fails_at p f (x ∷ xs) zero d h e = and_left (p (f x)) (list_all p (map f xs)) e
fails_at p f (x ∷ xs) (suc k) d h e = and_right (p (f x)) (list_all p (map f xs)) (fails_at p f xs k d (omega arith) e)

-- what holds of all elements
pub holds_at : {X : Type 0} (p : X → Bool) (xs : List X) (k : ℕ) (d : X) → k < length xs → list_all p xs ≡ true → p (get_or xs k d) ≡ true
holds_at p [] k d h e = absurd (omega arith)
holds_at p (x ∷ xs) zero d h e = first_so (p x) (list_all p xs) e
holds_at p (x ∷ xs) (suc k) d h e = holds_at p xs k d (omega arith) (second_so (p x) (list_all p xs) e)

pub digits_of : (word : List ℕ) → is_numeral word ≡ true → list_all is_ascii_digit word ≡ true
digits_of word e = second_so (leads_well word) (list_all is_ascii_digit word) e

-- a numeral that isn't within a bound is above it
above_by : (most : ℕ) (word : List ℕ) (b : Bool) → nat_le (decimal_value word) most ≡ b → cond b (Some (decimal_value word)) None ≡ None → most < decimal_value word
above_by most word true e is = absurd (cc)
above_by most word false e is = leb-false (decimal_value word) most e

pub is_above : (most : ℕ) (word : List ℕ) → is_numeral word ≡ true → number_within most word ≡ None → most < decimal_value word
is_above most word h is =
    above_by most word (nat_le (decimal_value word) most) refl (sym (numeral_is most word h) ∙ is)

unequal : (x y : ℕ) (b : Bool) → eqb x y ≡ b → (x ≡ y → ⊥) → eqb x y ≡ false
unequal x y true e ne = absurd (ne (eqb-true x y e))
unequal x y false e ne = e

pub not_zero : (word : List ℕ) → is_numeral word ≡ true → number_within 0 word ≡ None → eqb (decimal_value word) 0 ≡ false
not_zero word h is =
    let some : 0 < decimal_value word = is_above 0 word h is in
    unequal (decimal_value word) 0 (eqb (decimal_value word) 0) refl (λ e. absurd (omega (arith, e, some)))

-- a numeral that is within a bound is its number
value_by : (most n : ℕ) (word : List ℕ) (b : Bool) → cond b (Some (decimal_value word)) None ≡ Some n → n ≡ decimal_value word
value_by most n word true is = cc
value_by most n word false is = absurd (cc)

pub is_value : (most n : ℕ) (word : List ℕ) → is_numeral word ≡ true → number_within most word ≡ Some n → n ≡ decimal_value word
is_value most n word h is = value_by most n word (nat_le (decimal_value word) most) (sym (numeral_is most word h) ∙ is)

length-values : (ws : List (List ℕ)) → length (map decimal_value ws) ≡ length ws
length-values [] = refl
length-values (w ∷ ws) = ap suc (length-values ws)

-- the header that five to nine numerals state
abbrev pub value_at : List (List ℕ) → ℕ → ℕ
value_at words k = decimal_value (get_or words k [])

abbrev pub stated_header : List (List ℕ) → Header
stated_header words = record {
  counts = record { variables = value_at words 0; inputs = value_at words 1; latches = value_at words 2; outputs = value_at words 3; gates = value_at words 4 };
  further = map decimal_value (drop 5 words);
}

header_is : (words : List (List ℕ)) → 5 ≤ length words → length words ≤ 9 → list_all is_numeral words ≡ true → header_of_words words ≡ Some (stated_header words)
header_is words five nine e =
    ap (λ b. option_and_then header_of_numbers (cond b (Some (map decimal_value words)) None)) e ∙ by words five nine
  where
    by : (ws : List (List ℕ)) → 5 ≤ length ws → length ws ≤ 9 → header_of_numbers (map decimal_value ws) ≡ Some (stated_header ws)
    by (a ∷ b ∷ c ∷ d ∷ e ∷ ws) five nine =
        let few : length (map decimal_value ws) ≤ 4 = omega (arith, length-values ws) in
        ap (λ t. cond t (Some (record { counts = record { variables = decimal_value a; inputs = decimal_value b; latches = decimal_value c; outputs = decimal_value d; gates = decimal_value e }; further = map decimal_value ws })) None)
        (le-leb (length (map decimal_value ws)) 4 few)
    by [] five nine = absurd (omega arith)
    by (a ∷ []) five nine = absurd (omega arith)
    by (a ∷ b ∷ []) five nine = absurd (omega arith)
    by (a ∷ b ∷ c ∷ []) five nine = absurd (omega arith)
    by (a ∷ b ∷ c ∷ d ∷ []) five nine = absurd (omega arith)

module _ (words : List (List ℕ)) (room : ℕ) (five : 5 ≤ length words) (nine : length words ≤ 9) (numerals : list_all is_numeral words ≡ true) where
  abbrev sums_over : Bool
  sums_over = nat_lt (value_at words 0) (value_at words 1 + (value_at words 2 + value_at words 4))

  abbrev by_tests : Bool → Bool → Bool → Result Counts CircuitFault
  by_tests over large zeros =
      cond over (Err (BadHeader 1)) (cond large (Err (TooLarge 1)) (cond (not zeros) (Err (Unsupported 1))
      (Ok (record (stated_header words).counts { outputs = min (value_at words 3) room }))))

  counts_are : (over large zeros : Bool) → sums_over ≡ over → nat_lt CIRCUIT_VARIABLES (value_at words 0) ≡ large → list_all (λ n. eqb n 0) (map decimal_value (drop 5 words)) ≡ zeros
      → counts_in room (header_of_words words) ≡ by_tests over large zeros
  counts_are over large zeros a b c =
      ap (counts_in room) (header_is words five nine numerals)
      ∙ ap (λ o. by_tests o (nat_lt CIRCUIT_VARIABLES (value_at words 0)) (list_all (λ n. eqb n 0) (map decimal_value (drop 5 words)))) a
      ∙ ap (λ l. by_tests over l (list_all (λ n. eqb n 0) (map decimal_value (drop 5 words)))) b ∙ ap (by_tests over large) c

  module _ (size : ℕ) (fits : sums_over ≡ false) (within : number_within CIRCUIT_VARIABLES (get_or words 0 []) ≡ Some size) (small : size ≤ CIRCUIT_VARIABLES) (numeral : is_numeral (get_or words 0 []) ≡ true) where
    size_is : size ≡ value_at words 0
    size_is = is_value CIRCUIT_VARIABLES size (get_or words 0 []) numeral within

    not_large : nat_lt CIRCUIT_VARIABLES (value_at words 0) ≡ false
    not_large = le-ltb CIRCUIT_VARIABLES (value_at words 0) (rw size_is at small)

    pub counts_unsupported : list_all (λ n. eqb n 0) (map decimal_value (drop 5 words)) ≡ false → counts_in room (header_of_words words) ≡ Err (Unsupported 1)
    counts_unsupported c = counts_are false false false fits not_large c

    pub counts_fit : list_all (λ n. eqb n 0) (map decimal_value (drop 5 words)) ≡ true → (inputs latches outputs gates : ℕ)
        → inputs ≡ min (value_at words 1) CIRCUIT_VARIABLES → latches ≡ min (value_at words 2) CIRCUIT_VARIABLES → outputs ≡ min (value_at words 3) room → gates ≡ min (value_at words 4) CIRCUIT_VARIABLES
        → ◌≡◌ {A = Result Counts CircuitFault} (Ok (record { variables = size; inputs = inputs; latches = latches; outputs = outputs; gates = gates })) (counts_in room (header_of_words words))
    counts_fit c inputs latches outputs gates ei el eo eg =
        let sum : value_at words 1 + (value_at words 2 + value_at words 4) ≤ value_at words 0 = ltb-false (value_at words 0) (value_at words 1 + (value_at words 2 + value_at words 4)) fits in
        let same : size ≡ value_at words 0 = size_is in
        let i : inputs ≡ value_at words 1 = omega (arith, sum, same, small, ei) in
        let l : latches ≡ value_at words 2 = omega (arith, sum, same, small, el) in
        let g : gates ≡ value_at words 4 = omega (arith, sum, same, small, eg) in
        ap5 same i l eo g ∙ sym (counts_are false false true fits not_large c)
      where
        ap5 : size ≡ value_at words 0 → inputs ≡ value_at words 1 → latches ≡ value_at words 2 → outputs ≡ min (value_at words 3) room → gates ≡ value_at words 4
            → ◌≡◌ {A = Result Counts CircuitFault} (Ok (record { variables = size; inputs = inputs; latches = latches; outputs = outputs; gates = gates }))
            (Ok (record { variables = value_at words 0; inputs = value_at words 1; latches = value_at words 2; outputs = min (value_at words 3) room; gates = value_at words 4 }))
        ap5 s i l o g = λ k. Ok (record { variables = s k; inputs = i k; latches = l k; outputs = o k; gates = g k })
