-- One line read, and written.
use Rattle.std.proofs.Common.{◌≡◌, ℕ, ◌+◌, ◌-◌, ◌^◌, ◌<◌, ◌≤◌, Bool, true, false, not, ◌&&◌, cond, eqb, Option, Some, None, List, [], ◌∷◌, ◌++◌, length, take, drop, refl, sym, ap, subst, ◌∙◌, arith, slice_get, decimal, nat_eq}
use Rattle.std.specs.Prelude.{option_map, option_and_then, nat_le, unwrap_or, min}
use Rattle.std.specs.List.{list_all, slice_split, join_with_byte, count_by}
use Rattle.std.specs.Char.{is_ascii_digit}
use Rattle.std.specs.Cmp.Lexicographic.{pointwise, bytes_decides}
use Rattle.std.proofs.lemmas.Bool.{eq-eqb, le-leb, leb-true, and_parts}
use Rattle.std.proofs.lemmas.List.{take-append-drop}
use Rattle.std.proofs.lemmas.List.Elements.{All-append, All-cons}
use Rattle.std.proofs.lemmas.List.Splits.{join_with_byte-slice_split, length-slice_split}
use Rattle.std.proofs.Math.Seq.{take-append_seam, drop-append_seam}
use Rattle.names_and_numbers.specs.Numerals.{decimal_value}
use Rattle.names_and_numbers.proofs.NumeralLemmas.{numeral_is_decimal, decimal_is_numeral, digits_are}
use Rattle.aiger_text.specs.Words.{is_byte, cut_at, leads_well, is_numeral, number_within}
use Rattle.aiger_text.proofs.WordLemmas.{none-of_other}
use Rattle.aiger_text.proofs.Numbers.{is_numeral-decimal, number_within-decimal, decimal-lacks, Lacks, cut_at-seam}
use Rattle.aiger_text.proofs.Scanning.{cuts, HasPiece}
use Rattle.document_text.specs.Header.{behind, in_range, capped, number_behind, front}

-- ---- what stands behind words

behind_by : (words line tail : List ℕ) (b : Bool) → pointwise nat_eq words (take (length words) line) ≡ b
    → cond b (Some (drop (length words) line)) None ≡ Some tail → line ≡ words ++ tail
behind_by words line tail true e is =
    let first : words ≡ take (length words) line = (bytes_decides words (take (length words) line)).0 e in
    let second : drop (length words) line ≡ tail = ap (λ (o : Option (List ℕ)). unwrap_or o []) is in
    sym (take-append-drop (length words) line) ∙ (λ k. sym first k ++ second k)
behind_by words line tail false e is = absurd (cc)

pub behind_is : (words line tail : List ℕ) → behind words line ≡ Some tail → line ≡ words ++ tail
behind_is words line tail is = behind_by words line tail (pointwise nat_eq words (take (length words) line)) refl is

pub behind_words : (words tail : List ℕ) → behind words (words ++ tail) ≡ Some tail
behind_words words tail =
    let test : pointwise nat_eq words (take (length words) (words ++ tail)) ≡ true =
    (bytes_decides words (take (length words) (words ++ tail))).1 (sym (take-append_seam words tail)) in
    ap (λ b. cond b (Some (drop (length words) (words ++ tail))) None) test ∙ ap Some (drop-append_seam words tail)

-- ---- numbers

no_zero : (word : List ℕ) → leads_well word ≡ true → slice_get word 0 ≡ Some 48 → length word ≡ 1
no_zero [] leads is = absurd (cc)
no_zero (d ∷ []) leads is = refl
no_zero (d ∷ e ∷ ds) leads is =
    let n : d ≡ 48 = ap (λ (o : Option ℕ). unwrap_or o 0) is in
    let t : eqb d 48 ≡ true = eq-eqb d 48 n in
    let never : ◌≡◌ {A = Bool} false true = ap not (sym t) ∙ leads in
    absurd (cc)

not_empty : (word : List ℕ) → leads_well word ≡ true → 0 < length word
not_empty [] leads = absurd (cc)
not_empty (d ∷ ds) leads = omega arith

-- a numeral is the one of its value
pub numeral_is : (word : List ℕ) → is_numeral word ≡ true → decimal_value word < 2 ^ 64 → word ≡ decimal (decimal_value word)
numeral_is word is small =
    let parts = and_parts (leads_well word) (list_all is_ascii_digit word) is in
    numeral_is_decimal (decimal_value word) word small (record {
      digits = sym (digits_are word) ∙ parts.1;
      nonempty = not_empty word parts.0;
      no_leading_zero = no_zero word parts.0;
      value = refl;
    })

-- what a number that was read says of its word
pub record IsWordOf (most n : ℕ) (word : List ℕ) : Type 0 where
  pub within : n ≤ most
  pub word_is : word ≡ decimal n

within_by : (most n v : ℕ) (b : Bool) → nat_le v most ≡ b → cond b (Some v) None ≡ Some n → (v ≡ n) × (v ≤ most)
within_by most n v true e is = (ap (λ (o : Option ℕ). unwrap_or o 0) is, leb-true v most e)
within_by most n v false e is = absurd (cc)

number_by : (most n : ℕ) (word : List ℕ) (b : Bool) → most < 2 ^ 64 → is_numeral word ≡ b → number_within most word ≡ Some n → IsWordOf most n word
number_by most n word true small e is =
    let here : cond (nat_le (decimal_value word) most) (Some (decimal_value word)) None ≡ Some n =
    ap (λ b. option_and_then (λ n. cond (nat_le n most) (Some n) None) (cond b (Some (decimal_value word)) None)) (sym e) ∙ is in
    let k = within_by most n (decimal_value word) (nat_le (decimal_value word) most) refl here in
    let le = k.1 in
    record { within = subst (λ n. n ≤ most) k.0 k.1; word_is = numeral_is word e (omega arith) ∙ ap decimal k.0 }
number_by most n word false small e is = let never : ◌≡◌ {A = Option ℕ} None (Some n) = none-of_other most word e ∙ is in absurd (cc)

pub number_is : (most n : ℕ) (word : List ℕ) → most < 2 ^ 64 → number_within most word ≡ Some n → IsWordOf most n word
number_is most n word small is = number_by most n word (is_numeral word) small refl is

-- ---- a number in a range

range_by : (least n m : ℕ) (b : Bool) → nat_le least n ≡ b → cond b (Some n) None ≡ Some m → (n ≡ m) × (least ≤ n)
range_by least n m true e is = (ap (λ (o : Option ℕ). unwrap_or o 0) is, leb-true least n e)
range_by least n m false e is = absurd (cc)

pub record IsInRange (least most n : ℕ) (word : List ℕ) : Type 0 where
  pub at_least : least ≤ n
  pub at_most : n ≤ most
  pub word_is : word ≡ decimal n

in_range_by : (least most n : ℕ) (word : List ℕ) (o : Option ℕ) → most < 2 ^ 64 → number_within most word ≡ o
    → option_and_then (λ n. cond (nat_le least n) (Some n) None) o ≡ Some n → IsInRange least most n word
in_range_by least most n word None small e is = absurd (cc)
in_range_by least most n word (Some m) small e is =
    let k = range_by least m n (nat_le least m) refl is in
    let w = number_is most m word small e in
    record { at_least = subst (λ n. least ≤ n) k.0 k.1; at_most = subst (λ n. n ≤ most) k.0 w.within; word_is = w.word_is ∙ ap decimal k.0 }

pub in_range_is : (least most n : ℕ) (word : List ℕ) → most < 2 ^ 64 → in_range least most word ≡ Some n → IsInRange least most n word
in_range_is least most n word small is = in_range_by least most n word (number_within most word) small refl is

pub in_range_read : (least most n : ℕ) → most < 2 ^ 64 → least ≤ n → n ≤ most → in_range least most (decimal n) ≡ Some n
in_range_read least most n small low high =
    ap (option_and_then (λ n. cond (nat_le least n) (Some n) None)) (number_within-decimal n (omega arith) most high)
    ∙ ap (λ b. cond b (Some n) None) (le-leb least n low)

-- ---- a number that is capped

-- a small number is read as it is, and what is read as a small number is its word
min_small : (n most : ℕ) → n ≤ most → min n most ≡ n
min_small n most le = grind arith

pub capped_read : (n : ℕ) → n < 2 ^ 32 → capped (decimal n) ≡ Some n
capped_read n small =
    let value : decimal_value (decimal n) ≡ n = (decimal_is_numeral n (omega arith)).value in
    ap (λ b. cond b (Some (min (decimal_value (decimal n)) (2 ^ 32 - 1))) None) (is_numeral-decimal n (omega arith))
    ∙ ap (λ v. Some (min v (2 ^ 32 - 1))) value ∙ ap Some (min_small n (2 ^ 32 - 1) (omega arith))

least_is : (v n most : ℕ) → n < most → min v most ≡ n → v ≡ n
least_is v n most less is = grind arith

capped_by : (n : ℕ) (word : List ℕ) (b : Bool) → n < 2 ^ 32 - 1 → is_numeral word ≡ b → cond b (Some (min (decimal_value word) (2 ^ 32 - 1))) None ≡ Some n → word ≡ decimal n
capped_by n word true less e is =
    let v : decimal_value word ≡ n = least_is (decimal_value word) n (2 ^ 32 - 1) less (ap (λ (o : Option ℕ). unwrap_or o 0) is) in
    numeral_is word e (omega arith) ∙ ap decimal v
capped_by n word false less e is = absurd (cc)

pub capped_is : (n : ℕ) (word : List ℕ) → n < 2 ^ 32 - 1 → capped word ≡ Some n → word ≡ decimal n
capped_is n word less is = capped_by n word (is_numeral word) less refl is

-- ---- a number behind words

behind_then : {X : Type 0} (words line : List ℕ) (f : List ℕ → Option X) (x : X) (o : Option (List ℕ)) → behind words line ≡ o → option_and_then f o ≡ Some x
    → (tail : List ℕ) × (line ≡ words ++ tail) × (f tail ≡ Some x)
behind_then words line f x None e is = absurd (cc)
behind_then words line f x (Some tail) e is = (tail, behind_is words line tail e, is)

-- what follows the words gives the answer
pub follows_words : {X : Type 0} (words line : List ℕ) (f : List ℕ → Option X) (x : X) → option_and_then f (behind words line) ≡ Some x
    → (tail : List ℕ) × (line ≡ words ++ tail) × (f tail ≡ Some x)
follows_words words line f x is = behind_then words line f x (behind words line) refl is

pub words_read : {X : Type 0} (words tail : List ℕ) (f : List ℕ → Option X) (x : X) → f tail ≡ Some x → option_and_then f (behind words (words ++ tail)) ≡ Some x
words_read words tail f x is = ap (option_and_then f) (behind_words words tail) ∙ is

pub range_is : (words line : List ℕ) (least most n : ℕ) → most < 2 ^ 64 → option_and_then (in_range least most) (behind words line) ≡ Some n
    → (line ≡ words ++ decimal n) × (least ≤ n) × (n ≤ most)
range_is words line least most n small is =
    let k = follows_words words line (in_range least most) n is in
    let w = in_range_is least most n k.0 small k.2 in
    (k.1 ∙ ap (λ (t : List ℕ). words ++ t) w.word_is, w.at_least, w.at_most)

pub range_read : (words : List ℕ) (least most n : ℕ) → most < 2 ^ 64 → least ≤ n → n ≤ most → option_and_then (in_range least most) (behind words (words ++ decimal n)) ≡ Some n
range_read words least most n small low high = words_read words (decimal n) (in_range least most) n (in_range_read least most n small low high)

pub number_behind_is : (words line : List ℕ) (n : ℕ) → n < 2 ^ 32 - 1 → number_behind words line ≡ Some n → line ≡ words ++ decimal n
number_behind_is words line n less is =
    let k = follows_words words line capped n is in
    k.1 ∙ ap (λ (t : List ℕ). words ++ t) (capped_is n k.0 less k.2)

-- ---- the first line

pub line_there : (line rest : List ℕ) → Lacks 10 line → cut_at 10 (line ++ 10 ∷ rest) ≡ Some (line, rest)
line_there line rest none = cut_at-seam 10 line rest none

-- there is a piece
pieces_by : (pieces : List (List ℕ)) (n : ℕ) → length pieces ≡ n + 1 → HasPiece pieces
pieces_by [] n e = absurd (omega arith)
pieces_by (p ∷ ps) n e = record { first = p; others = ps; are = refl }

some_piece : (separator : ℕ) (bytes : List ℕ) → HasPiece (slice_split (is_byte separator) bytes)
some_piece separator bytes =
    pieces_by (slice_split (is_byte separator) bytes) (count_by (is_byte separator) bytes) (length-slice_split (is_byte separator) bytes)

piece_joined : (separator : ℕ) (line : List ℕ) (pieces : List (List ℕ)) → HasPiece pieces
    → join_with_byte separator (line ∷ pieces) ≡ line ++ separator ∷ join_with_byte separator pieces
piece_joined separator line pieces some =
    rw some.are refl

-- what stands before the first separator and what is behind it are the bytes
pub cut_is : (separator : ℕ) (bytes line rest : List ℕ) → cut_at separator bytes ≡ Some (line, rest) → bytes ≡ line ++ separator ∷ rest
cut_is separator bytes line rest is =
    let k = cuts separator bytes line rest is in
    sym (join_with_byte-slice_split separator bytes) ∙ ap (join_with_byte separator) k.pieces
    ∙ piece_joined separator line (slice_split (is_byte separator) rest) (some_piece separator rest)
    ∙ ap (λ (r : List ℕ). line ++ separator ∷ r) (join_with_byte-slice_split separator rest)

pub front_read : {X : Type 0} (reading : List ℕ → Option X) (line rest : List ℕ) (x : X) → Lacks 10 line → reading line ≡ Some x
    → front reading (line ++ 10 ∷ rest) ≡ Some (x, rest)
front_read {X = X} reading line rest x none is =
    ap (option_and_then (λ (cut : List ℕ × List ℕ). option_map (λ (x : X). (x, cut.1)) (reading cut.0))) (line_there line rest none)
    ∙ ap (option_map (λ (x : X). (x, rest))) is

-- the first line that was read
pub record IsFront {X : Type 0} (reading : List ℕ → Option X) (bytes : List ℕ) (x : X) (rest : List ℕ) : Type 0 where
  pub line : List ℕ
  pub bytes_are : bytes ≡ line ++ 10 ∷ rest
  pub read : reading line ≡ Some x

-- what a reading makes of a line, beside the bytes behind the line
abbrev pub beside : {X : Type 0} → List ℕ → Option X → Option (X × List ℕ)
beside {X = X} rest o = option_map {U = X × List ℕ} (λ (x : X). (x, rest)) o

abbrev pub read_cut : {X : Type 0} → (List ℕ → Option X) → Option (List ℕ × List ℕ) → Option (X × List ℕ)
read_cut {X = X} reading o = option_and_then {U = X × List ℕ} (λ (cut : List ℕ × List ℕ). beside cut.1 (reading cut.0)) o

module _ {X : Type 0} (reading : List ℕ → Option X) (bytes : List ℕ) (x : X) (rest : List ℕ) where
  front_line : (line behind : List ℕ) (o : Option X) → cut_at 10 bytes ≡ Some (line, behind) → reading line ≡ o → beside behind o ≡ Some (x, rest)
      → IsFront reading bytes x rest
  front_line line behind None cut e is = absurd (cc)
  front_line line behind (Some y) cut e is =
      let first : y ≡ x = ap (λ (o : Option (X × List ℕ)). (unwrap_or o (x, [])).0) is in
      let second : behind ≡ rest = ap (λ (o : Option (X × List ℕ)). (unwrap_or o (x, [])).1) is in
      record { line = line; bytes_are = cut_is 10 bytes line behind cut ∙ ap (λ (r : List ℕ). line ++ 10 ∷ r) second; read = e ∙ ap Some first }

  front_by : (o : Option (List ℕ × List ℕ)) → cut_at 10 bytes ≡ o → read_cut reading o ≡ Some (x, rest) → IsFront reading bytes x rest
  front_by None e is = absurd (cc)
  front_by (Some cut) e is = front_line cut.0 cut.1 (reading cut.0) e refl is

  pub front_is : front reading bytes ≡ Some (x, rest) → IsFront reading bytes x rest
  front_is is = front_by (cut_at 10 bytes) refl is

-- ---- lines have no LF

pub text_lacks : (words : List ℕ) (n : ℕ) → Lacks 10 words → n < 2 ^ 64 → Lacks 10 (words ++ decimal n)
text_lacks words n none small = All-append (λ b. is_byte 10 b ≡ false) words (decimal n) none (decimal-lacks 10 n refl small)

lacks_by : (c : ℕ) (cs : List ℕ) (b : Bool) → is_byte 10 c ≡ b → (not b && list_all (λ b. not (is_byte 10 b)) cs) ≡ true
    → (list_all (λ b. not (is_byte 10 b)) cs ≡ true → Lacks 10 cs) → Lacks 10 (c ∷ cs)
lacks_by c cs true e h rest = absurd (cc)
lacks_by c cs false e h rest = All-cons (λ b. is_byte 10 b ≡ false) c cs e (rest h)

-- words that a test finds without LF
pub words_lack : (words : List ℕ) → list_all (λ b. not (is_byte 10 b)) words ≡ true → Lacks 10 words
words_lack [] h = λ k d less. absurd (omega arith)
words_lack (c ∷ cs) h = lacks_by c cs (is_byte 10 c) refl h (words_lack cs)

-- nothing is read of a first line that reads as nothing
pub front_none : {X : Type 0} (reading : List ℕ → Option X) (line rest : List ℕ) → Lacks 10 line → reading line ≡ None
    → front reading (line ++ 10 ∷ rest) ≡ None
front_none {X = X} reading line rest none is =
    ap (option_and_then (λ (cut : List ℕ × List ℕ). option_map (λ (x : X). (x, cut.1)) (reading cut.0))) (line_there line rest none)
    ∙ ap (option_map (λ (x : X). (x, rest))) is
