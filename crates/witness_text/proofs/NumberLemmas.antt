-- The numbers of a line.
use Rattle.std.proofs.Common.{◌≡◌, ℕ, suc, ◌+◌, ◌<◌, ◌≤◌, ◌^◌, false, Option, Some, None, List, [], ◌∷◌, ◌++◌, length, refl, sym, ap, subst, ◌∙◌, arith, append_assoc, decimal}
use Rattle.std.specs.Prelude.{All, map, option_and_then, unwrap_or}
use Rattle.std.specs.List.{join_with_byte, count_by}
use Rattle.std.specs.Option.{option_map_or}
use Rattle.std.proofs.lemmas.List.{append-nil}
use Rattle.std.proofs.lemmas.List.Elements.{All-append, All-cons}
use Rattle.std.proofs.lemmas.List.Splits.{join_with_byte-slice_split, length-slice_split}
use Rattle.aiger_text.specs.Words.{is_byte, cut_at}
use Rattle.aiger_text.specs.CircuitText.{numbers_line}
use Rattle.aiger_text.proofs.Numbers.{AreSmall, Lacks, line-lacks, words_of-numbers}
use Rattle.aiger_text.proofs.Scanning.{cuts, no_cut}
use Rattle.document_text.specs.Header.{behind, in_range}
use Rattle.document_text.proofs.LineRead.{follows_words, in_range_is, in_range_read, words_read}
use Rattle.witness_text.specs.Forms.{most_number, numbers_behind, numbers_from, numbers_in, words_in}
use Rattle.witness_text.specs.States.{IsLiteral}

-- ---- one number after the other

-- one number more
module _ (rest word behind done : List ℕ) (whole : Option (List ℕ)) (cut : cut_at 32 rest ≡ Some (word, behind)) (so_far : numbers_from done (words_in rest) ≡ whole) where
  here : numbers_from done (word ∷ words_in behind) ≡ whole
  here = sym (ap (numbers_from done) (cuts 32 rest word behind cut).pieces) ∙ so_far

  pub number_more : (n : ℕ) → in_range 0 most_number word ≡ Some n → numbers_from (done ++ n ∷ []) (words_in behind) ≡ whole
  number_more n is = sym (ap (λ o. option_map_or (λ n. numbers_from (done ++ n ∷ []) (words_in behind)) o None) is) ∙ here

  pub number_bad : in_range 0 most_number word ≡ None → whole ≡ None
  number_bad is = sym here ∙ ap (λ o. option_map_or (λ n. numbers_from (done ++ n ∷ []) (words_in behind)) o None) is

  pub number_shorter : length behind < length rest
  number_shorter = (let shorter : length rest ≡ length word + 1 + length behind = (cuts 32 rest word behind cut).shorter in omega (arith, shorter))

-- the last number
module _ (rest done : List ℕ) (whole : Option (List ℕ)) (cut : cut_at 32 rest ≡ None) (so_far : numbers_from done (words_in rest) ≡ whole) where
  last_here : numbers_from done (rest ∷ []) ≡ whole
  last_here = sym (ap (numbers_from done) (no_cut 32 rest cut)) ∙ so_far

  pub number_last : (n : ℕ) → in_range 0 most_number rest ≡ Some n → whole ≡ Some (done ++ n ∷ [])
  number_last n is = sym last_here ∙ ap (λ o. option_map_or (λ n. numbers_from (done ++ n ∷ []) []) o None) is

  pub number_last_bad : in_range 0 most_number rest ≡ None → whole ≡ None
  number_last_bad is = sym last_here ∙ ap (λ o. option_map_or (λ n. numbers_from (done ++ n ∷ []) []) o None) is

-- ---- what is read is what stands there

record AreNumbers (done : List ℕ) (words : List (List ℕ)) (numbers : List ℕ) : Type 0 where
  more : List ℕ
  numbers_are : numbers ≡ done ++ more
  words_are : words ≡ map decimal more
  small : All IsLiteral more

none_small : All IsLiteral []
none_small = λ k d less. absurd (omega arith)

number_by : (done : List ℕ) (word : List ℕ) (words : List (List ℕ)) (numbers : List ℕ) (o : Option ℕ) → in_range 0 most_number word ≡ o
    → ((n : ℕ) → numbers_from (done ++ n ∷ []) words ≡ Some numbers → AreNumbers (done ++ n ∷ []) words numbers)
    → option_map_or (λ n. numbers_from (done ++ n ∷ []) words) o None ≡ Some numbers → AreNumbers done (word ∷ words) numbers
number_by done word words numbers None e later is = absurd (cc)
number_by done word words numbers (Some n) e later is =
    let r = in_range_is 0 most_number n word (omega arith) e in
    let k = later n is in
    record {
      more = n ∷ k.more;
      numbers_are = k.numbers_are ∙ append_assoc done (n ∷ []) k.more;
      words_are = λ i. r.word_is i ∷ k.words_are i;
      small = All-cons IsLiteral n k.more r.at_most k.small;
    }

are_numbers : (done : List ℕ) (words : List (List ℕ)) (numbers : List ℕ) → numbers_from done words ≡ Some numbers → AreNumbers done words numbers
are_numbers done [] numbers is =
    record { more = []; numbers_are = sym (ap (λ (o : Option (List ℕ)). unwrap_or o []) is) ∙ sym (append-nil done); words_are = refl; small = none_small }
are_numbers done (word ∷ words) numbers is =
    number_by done word words numbers (in_range 0 most_number word) refl (λ n is. are_numbers (done ++ n ∷ []) words numbers is) is

-- the line has these numbers behind the words
pub record IsLineOf (words line numbers : List ℕ) : Type 0 where
  pub line_is : line ≡ words ++ numbers_line numbers
  pub small : All IsLiteral numbers

pub line_of_numbers : (words line numbers : List ℕ) → numbers_behind words line ≡ Some numbers → IsLineOf words line numbers
line_of_numbers words line numbers is =
    let t = follows_words words line numbers_in numbers is in
    let k = are_numbers [] (words_in t.0) numbers t.2 in
    let all : k.more ≡ numbers = sym k.numbers_are in
    let text : t.0 ≡ numbers_line numbers = sym (join_with_byte-slice_split 32 t.0) ∙ ap (join_with_byte 32) (k.words_are ∙ ap (map decimal) all) in
    record { line_is = t.1 ∙ ap (λ (text : List ℕ). words ++ text) text; small = subst (λ (ns : List ℕ). All IsLiteral ns) all k.small }

-- ---- what stands there is read

numbers_read : (done numbers : List ℕ) → All IsLiteral numbers → numbers_from done (map decimal numbers) ≡ Some (done ++ numbers)
numbers_read done [] small = ap Some (sym (append-nil done))
numbers_read done (n ∷ numbers) small =
    let le : n ≤ most_number = small 0 n (omega arith) in
    ap (λ o. option_map_or (λ n. numbers_from (done ++ n ∷ []) (map decimal numbers)) o None) (in_range_read 0 most_number n (omega arith) (omega arith) le)
    ∙ numbers_read (done ++ n ∷ []) numbers (λ k d less. small (suc k) d (omega arith))
    ∙ ap Some (append_assoc done (n ∷ []) numbers)

pub small_numbers : (numbers : List ℕ) → All IsLiteral numbers → AreSmall numbers
small_numbers numbers small = λ k d less. (let le = small k d less in omega (arith, le))

module _ (words : List ℕ) (n : ℕ) (ns : List ℕ) (small : All IsLiteral (n ∷ ns)) where
  pub line_read : numbers_behind words (words ++ numbers_line (n ∷ ns)) ≡ Some (n ∷ ns)
  line_read =
      words_read words (numbers_line (n ∷ ns)) numbers_in (n ∷ ns)
      (ap (numbers_from []) (words_of-numbers n ns (small_numbers (n ∷ ns) small)) ∙ numbers_read [] (n ∷ ns) small)

  pub line_lacks : Lacks 10 words → Lacks 10 (words ++ numbers_line (n ∷ ns))
  line_lacks none =
      All-append (λ b. is_byte 10 b ≡ false) words (numbers_line (n ∷ ns)) none (line-lacks (n ∷ ns) (small_numbers (n ∷ ns) small))
