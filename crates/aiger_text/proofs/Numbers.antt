-- Numbers that were written, read back.
use Rattle.std.proofs.Common.{◌≡◌, ℕ, suc, ◌+◌, ◌^◌, ◌<◌, ◌≤◌, Bool, true, false, not, ◌&&◌, cond, eqb, Some, None, List, [], ◌∷◌, ◌++◌, length, get_or, refl, sym, ap, ◌∙◌, arith, slice_get, decimal}
use Rattle.std.specs.Prelude.{map, All, option_map}
use Rattle.std.specs.List.{list_all}
use Rattle.std.specs.Char.{is_ascii_digit}
use Rattle.std.proofs.lemmas.Bool.{eqb-true, eq-eqb, and_parts}
use Rattle.std.proofs.lemmas.List.{get_or_append_left}
use Rattle.std.proofs.Math.Seq.{take-append_seam, drop-append-add, get_or-append_seam}
use Rattle.std.proofs.lemmas.List.Elements.{All-append, All-cons}
use Rattle.std.proofs.lemmas.List.Splits.{slice_split_none, slice_split_at}
use Rattle.names_and_numbers.specs.Numerals.{decimal_value, IsNumeralOf}
use Rattle.names_and_numbers.proofs.NumeralLemmas.{decimal_is_numeral, digits_are}
use Rattle.aiger_text.specs.Words.{is_byte, cut_at, leads_well, is_numeral, number_within}
use Rattle.aiger_text.specs.CircuitText.{numbers_line}
use Rattle.aiger_text.specs.CircuitFile.{words_of, numbers_of}
use Rattle.aiger_text.proofs.WordLemmas.{digits-of_numeral, found-number}
use Rattle.aiger_text.proofs.Firsts.{first_is, none_is}
use Rattle.aiger_text.proofs.Scanning.{halves}

leads : (word : List ℕ) → 0 < length word → (slice_get word 0 ≡ Some 48 → length word ≡ 1) → leads_well word ≡ true
leads [] some one = absurd (omega arith)
leads (c ∷ []) some one = refl
leads (c ∷ e ∷ cs) some one = by (eqb c 48) refl
  where
    by : (b : Bool) → eqb c 48 ≡ b → not b ≡ true
    by true is = let n : length (c ∷ e ∷ cs) ≡ 1 = one (ap Some (eqb-true c 48 is)) in absurd (omega arith)
    by false is = refl

module _ (n : ℕ) (small : n < 2 ^ 64) where
  abbrev numeral : IsNumeralOf n (decimal n)
  numeral = decimal_is_numeral n small

  pub all_digits : list_all is_ascii_digit (decimal n) ≡ true
  all_digits = digits_are (decimal n) ∙ numeral.digits

  pub is_numeral-decimal : is_numeral (decimal n) ≡ true
  is_numeral-decimal = ap (λ b. b && list_all is_ascii_digit (decimal n)) (leads (decimal n) numeral.nonempty numeral.no_leading_zero) ∙ all_digits

  pub number_within-decimal : (most : ℕ) → n ≤ most → number_within most (decimal n) ≡ Some n
  number_within-decimal most le =
      sym (found-number most n (decimal n) is_numeral-decimal (sym numeral.value ∙ ap decimal_value (sym (digits-of_numeral (decimal n) is_numeral-decimal))) le)

-- numbers of 64 bits
abbrev pub AreSmall : List ℕ → Type 0
AreSmall ns = All (λ n. n < 2 ^ 64) ns

pub all_numerals : (ns : List ℕ) → AreSmall ns → list_all is_numeral (map decimal ns) ≡ true
all_numerals [] small = refl
all_numerals (n ∷ ns) small =
    ap (λ b. b && list_all is_numeral (map decimal ns)) (is_numeral-decimal n (small 0 n (omega arith))) ∙ all_numerals ns (λ k d h. small (suc k) d (omega arith))

pub all_values : (ns : List ℕ) → AreSmall ns → map decimal_value (map decimal ns) ≡ ns
all_values [] small = refl
all_values (n ∷ ns) small =
    let first : decimal_value (decimal n) ≡ n = (decimal_is_numeral n (small 0 n (omega arith))).value in
    let others : map decimal_value (map decimal ns) ≡ ns = all_values ns (λ k d h. small (suc k) d (omega arith)) in
    λ k. first k ∷ others k

pub numbers_of-decimals : (ns : List ℕ) → AreSmall ns → numbers_of (map decimal ns) ≡ Some ns
numbers_of-decimals ns small =
    ap (λ b. cond b (Some (map decimal_value (map decimal ns))) None) (all_numerals ns small) ∙ ap Some (all_values ns small)

-- words of digits have no separator
abbrev pub Lacks : ℕ → List ℕ → Type 0
Lacks separator bytes = All (λ b. is_byte separator b ≡ false) bytes

apart : (separator c : ℕ) (b : Bool) → eqb c separator ≡ b → is_ascii_digit separator ≡ false → is_ascii_digit c ≡ true → eqb c separator ≡ false
apart separator c true e odd is = let never : ◌≡◌ {A = Bool} true false = sym is ∙ ap is_ascii_digit (eqb-true c separator e) ∙ odd in absurd (cc)
apart separator c false e odd is = e

lacks : (separator : ℕ) → is_ascii_digit separator ≡ false → (word : List ℕ) → list_all is_ascii_digit word ≡ true → Lacks separator word
lacks separator odd [] h = λ k d less. absurd (omega arith)
lacks separator odd (c ∷ cs) h =
    let parts = and_parts (is_ascii_digit c) (list_all is_ascii_digit cs) h in
    All-cons (λ b. is_byte separator b ≡ false) c cs (apart separator c (eqb c separator) refl odd parts.0) (lacks separator odd cs parts.1)

pub decimal-lacks : (separator n : ℕ) → is_ascii_digit separator ≡ false → n < 2 ^ 64 → Lacks separator (decimal n)
decimal-lacks separator n odd small = lacks separator odd (decimal n) (all_digits n small)

pub line-lacks : (ns : List ℕ) → AreSmall ns → Lacks 10 (numbers_line ns)
line-lacks [] small = λ k d less. absurd (omega arith)
line-lacks (n ∷ []) small = decimal-lacks 10 n refl (small 0 n (omega arith))
line-lacks (n ∷ m ∷ ns) small =
    All-append (λ b. is_byte 10 b ≡ false) (decimal n) (32 ∷ numbers_line (m ∷ ns)) (decimal-lacks 10 n refl (small 0 n (omega arith)))
    (All-cons (λ b. is_byte 10 b ≡ false) 32 (numbers_line (m ∷ ns)) refl (line-lacks (m ∷ ns) (λ k d h. small (suc k) d (omega arith))))

-- the words of a line of numbers
pub words_of-numbers : (n : ℕ) (ns : List ℕ) → AreSmall (n ∷ ns) → words_of (numbers_line (n ∷ ns)) ≡ map decimal (n ∷ ns)
words_of-numbers n [] small = slice_split_none (is_byte 32) (decimal n) (decimal-lacks 32 n refl (small 0 n (omega arith)))
words_of-numbers n (m ∷ ns) small =
    slice_split_at (is_byte 32) (decimal n) 32 (numbers_line (m ∷ ns)) (decimal-lacks 32 n refl (small 0 n (omega arith))) refl
    ∙ ap (λ (ws : List (List ℕ)). decimal n ∷ ws) (words_of-numbers m ns (λ k d h. small (suc k) d (omega arith)))

pub cut_at-seam : (separator : ℕ) (xs ys : List ℕ) → Lacks separator xs → cut_at separator (xs ++ separator ∷ ys) ≡ Some (xs, ys)
cut_at-seam separator xs ys none =
    let bytes : List ℕ = xs ++ separator ∷ ys in
    let there : length xs < length (xs ++ separator ∷ ys) = length_seam xs in
    let here : is_byte separator (get_or (xs ++ separator ∷ ys) (length xs) 0) ≡ true = eq-eqb (get_or (xs ++ separator ∷ ys) (length xs) 0) separator (get_or-append_seam xs separator ys 0) in
    ap (option_map (halves (xs ++ separator ∷ ys))) (sym (first_is (is_byte separator) (xs ++ separator ∷ ys) (length xs) 0 there
    (λ k h. ap (is_byte separator) (get_or_append_left xs (separator ∷ ys) 0 k h) ∙ none k 0 h) here))
    ∙ λ k. Some (take-append_seam xs (separator ∷ ys) k, drop-append-add xs (separator ∷ ys) 1 k)
  where
    length_seam : (xs : List ℕ) → length xs < length (xs ++ separator ∷ ys)
    length_seam [] = omega arith
    length_seam (x ∷ xs) = let less : length xs < length (xs ++ separator ∷ ys) = length_seam xs in omega arith

pub cut_at-none : (separator : ℕ) (xs : List ℕ) → Lacks separator xs → cut_at separator xs ≡ None
cut_at-none separator xs none =
    ap (option_map (halves xs)) (sym (none_is (is_byte separator) xs (length xs) 0 (omega arith) (λ k h. none k 0 h)))
