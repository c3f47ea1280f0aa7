-- The letters that a word names.
use Rattle.std.proofs.Common.{◌≡◌, ℕ, ◌+◌, ◌<◌, ◌≤◌, Bool, true, false, cond, Option, Some, None, List, [], ◌∷◌, ◌++◌, length, refl, sym, ap, subst, ◌∙◌, arith, append_assoc, decimal}
use Rattle.std.specs.Prelude.{map, option_map, codes, unwrap_or}
use Rattle.std.specs.List.{join_with_byte, list_all, count_by}
use Rattle.std.specs.Option.{option_map_or}
use Rattle.std.specs.Char.{is_ascii_digit}
use Rattle.std.specs.Str.{bytes_eq}
use Rattle.std.specs.Cmp.Lexicographic.{bytes_decides}
use Rattle.std.proofs.lemmas.List.{append-nil}
use Rattle.std.proofs.lemmas.List.Elements.{All-append, All-cons}
use Rattle.std.proofs.lemmas.List.Splits.{join_with_byte-slice_split, length-slice_split, slice_split_none, slice_split_at}
use Rattle.std_lemmas.proofs.Options.{mapped_some}
use Rattle.aiger_text.specs.Words.{is_byte, cut_at}
use Rattle.aiger_text.proofs.Numbers.{Lacks, all_digits, decimal-lacks}
use Rattle.aiger_text.proofs.Scanning.{cuts, no_cut}
use Rattle.document_text.specs.Header.{in_range}
use Rattle.document_text.proofs.LineRead.{in_range_is, in_range_read}
use Rattle.solved_text.specs.declared.letters.Letters.{Letters}
use Rattle.solved_text.specs.declared.letters.Letters.TheVariants.{All as AllLetters, Few}
use Rattle.solved_text.specs.Lines.{letters_word}
use Rattle.solved_text.specs.Logs.{letters_in, most_letter, numbers_from, numbers_in, parts_of}
use Rattle.solved_text.specs.States.{AreLetters, Rise}

-- ---- one number after the other

-- one number more
module _ (rest word behind done : List ℕ) (least : ℕ) (whole : Option (List ℕ)) (cut : cut_at 44 rest ≡ Some (word, behind))
    (so_far : numbers_from done least (parts_of rest) ≡ whole) where
  here : numbers_from done least (word ∷ parts_of behind) ≡ whole
  here = sym (ap (numbers_from done least) (cuts 44 rest word behind cut).pieces) ∙ so_far

  pub number_more : (n : ℕ) → in_range least most_letter word ≡ Some n → numbers_from (done ++ n ∷ []) (n + 1) (parts_of behind) ≡ whole
  number_more n is = sym (ap (λ o. option_map_or (λ n. numbers_from (done ++ n ∷ []) (n + 1) (parts_of behind)) o None) is) ∙ here

  pub number_bad : in_range least most_letter word ≡ None → whole ≡ None
  number_bad is = sym here ∙ ap (λ o. option_map_or (λ n. numbers_from (done ++ n ∷ []) (n + 1) (parts_of behind)) o None) is

  pub number_shorter : length behind < length rest
  number_shorter = (let shorter : length rest ≡ length word + 1 + length behind = (cuts 44 rest word behind cut).shorter in omega (arith, shorter))

-- a letter's number is small
pub number_small : (least n : ℕ) (word : List ℕ) → in_range least most_letter word ≡ Some n → n ≤ most_letter
number_small least n word is = (in_range_is least most_letter n word (omega arith) is).at_most

-- the last number
module _ (rest done : List ℕ) (least : ℕ) (whole : Option (List ℕ)) (cut : cut_at 44 rest ≡ None) (so_far : numbers_from done least (parts_of rest) ≡ whole) where
  last_here : numbers_from done least (rest ∷ []) ≡ whole
  last_here = sym (ap (numbers_from done least) (no_cut 44 rest cut)) ∙ so_far

  pub number_last : (n : ℕ) → in_range least most_letter rest ≡ Some n → whole ≡ Some (done ++ n ∷ [])
  number_last n is = sym last_here ∙ ap (λ o. option_map_or (λ n. numbers_from (done ++ n ∷ []) (n + 1) []) o None) is

  pub number_last_bad : in_range least most_letter rest ≡ None → whole ≡ None
  number_last_bad is = sym last_here ∙ ap (λ o. option_map_or (λ n. numbers_from (done ++ n ∷ []) (n + 1) []) o None) is

-- ---- what is read is what stands there

pub record AreNumbers (done : List ℕ) (least : ℕ) (words : List (List ℕ)) (numbers : List ℕ) : Type 0 where
  pub more : List ℕ
  pub numbers_are : numbers ≡ done ++ more
  pub words_are : words ≡ map decimal more
  pub rise : Rise least more

number_by : (done : List ℕ) (least : ℕ) (word : List ℕ) (words : List (List ℕ)) (numbers : List ℕ) (o : Option ℕ) → in_range least most_letter word ≡ o
    → ((n : ℕ) → numbers_from (done ++ n ∷ []) (n + 1) words ≡ Some numbers → AreNumbers (done ++ n ∷ []) (n + 1) words numbers)
    → option_map_or (λ n. numbers_from (done ++ n ∷ []) (n + 1) words) o None ≡ Some numbers → AreNumbers done least (word ∷ words) numbers
number_by done least word words numbers None e later is = absurd (cc)
number_by done least word words numbers (Some n) e later is =
    let r = in_range_is least most_letter n word (omega arith) e in
    let k = later n is in
    record {
      more = n ∷ k.more;
      numbers_are = k.numbers_are ∙ append_assoc done (n ∷ []) k.more;
      words_are = λ i. r.word_is i ∷ k.words_are i;
      rise = (r.at_least, r.at_most, k.rise);
    }

are_numbers : (done : List ℕ) (least : ℕ) (words : List (List ℕ)) (numbers : List ℕ) → numbers_from done least words ≡ Some numbers → AreNumbers done least words numbers
are_numbers done least [] numbers is =
    record { more = []; numbers_are = sym (ap (λ (o : Option (List ℕ)). unwrap_or o []) is) ∙ sym (append-nil done); words_are = refl; rise = tt }
are_numbers done least (word ∷ words) numbers is =
    number_by done least word words numbers (in_range least most_letter word) refl (λ n is. are_numbers (done ++ n ∷ []) (n + 1) words numbers is) is

some_numbers : (numbers : List ℕ) (k : ℕ) → length (map decimal numbers) ≡ k + 1 → 0 < length numbers
some_numbers [] k is = absurd (omega arith)
some_numbers (n ∷ numbers) k is = omega arith

-- letters, as their word names them
pub record IsLettersWord (word : List ℕ) (letters : Letters) : Type 0 where
  pub word_is : word ≡ letters_word letters
  pub are : AreLetters letters

few_by : (word numbers : List ℕ) (letters : Letters) → AreNumbers [] 0 (parts_of word) numbers → Few numbers ≡ letters → IsLettersWord word letters
few_by word numbers letters k same =
    let all : k.more ≡ numbers = sym k.numbers_are in
    let parts : parts_of word ≡ map decimal numbers = k.words_are ∙ ap (map decimal) all in
    subst (λ (l : Letters). IsLettersWord word l) same
    (record {
      word_is = sym (join_with_byte-slice_split 44 word) ∙ ap (join_with_byte 44) parts;
      are = (some_numbers numbers (count_by (is_byte 44) word) (ap length (sym parts) ∙ length-slice_split (is_byte 44) word), subst (λ (ns : List ℕ). Rise 0 ns) all k.rise);
    })

letters_by : (word : List ℕ) (letters : Letters) (b : Bool) → bytes_eq word (codes "all") ≡ b → cond b (Some AllLetters) (option_map Few (numbers_in word)) ≡ Some letters
    → IsLettersWord word letters
letters_by word letters true e is =
    subst (λ (l : Letters). IsLettersWord word l) (ap (λ (o : Option Letters). unwrap_or o AllLetters) is)
    (record { word_is = (bytes_decides word (codes "all")).0 e; are = tt })
letters_by word letters false e is =
    let k = mapped_some Few (numbers_in word) letters is in
    few_by word k.0 letters (are_numbers [] 0 (parts_of word) k.0 k.1) k.2

pub letters_is : (word : List ℕ) (letters : Letters) → letters_in word ≡ Some letters → IsLettersWord word letters
letters_is word letters is = letters_by word letters (bytes_eq word (codes "all")) refl is

-- ---- what stands there is read

numbers_read : (done : List ℕ) (least : ℕ) (numbers : List ℕ) → Rise least numbers → numbers_from done least (map decimal numbers) ≡ Some (done ++ numbers)
numbers_read done least [] rise = ap Some (sym (append-nil done))
numbers_read done least (n ∷ numbers) rise =
    ap (λ o. option_map_or (λ n. numbers_from (done ++ n ∷ []) (n + 1) (map decimal numbers)) o None) (in_range_read least most_letter n (omega arith) rise.0 rise.1)
    ∙ numbers_read (done ++ n ∷ []) (n + 1) numbers rise.2
    ∙ ap Some (append_assoc done (n ∷ []) numbers)

parts_of-numbers : (least n : ℕ) (ns : List ℕ) → Rise least (n ∷ ns) → parts_of (join_with_byte 44 (map decimal (n ∷ ns))) ≡ map decimal (n ∷ ns)
parts_of-numbers least n [] rise = let most = rise.1 in slice_split_none (is_byte 44) (decimal n) (decimal-lacks 44 n refl (omega arith))
parts_of-numbers least n (m ∷ ns) rise = let most = rise.1 in
    slice_split_at (is_byte 44) (decimal n) 44 (join_with_byte 44 (map decimal (m ∷ ns))) (decimal-lacks 44 n refl (omega arith)) refl
    ∙ ap (λ (ws : List (List ℕ)). decimal n ∷ ws) (parts_of-numbers (n + 1) m ns rise.2)

-- a number isn't the word `all`
never_all : (least n : ℕ) (ns : List ℕ) → Rise least (n ∷ ns) → (b : Bool) → bytes_eq (join_with_byte 44 (map decimal (n ∷ ns))) (codes "all") ≡ b → b ≡ false
never_all least n ns rise true e =
    let most = rise.1 in
    let words : join_with_byte 44 (map decimal (n ∷ ns)) ≡ codes "all" = (bytes_decides (join_with_byte 44 (map decimal (n ∷ ns))) (codes "all")).0 e in
    let parts : map decimal (n ∷ ns) ≡ codes "all" ∷ [] = sym (parts_of-numbers least n ns rise) ∙ ap parts_of words in
    let first : decimal n ≡ codes "all" = ap (λ (ws : List (List ℕ)). first_of ws) parts in
    let digits : ◌≡◌ {A = Bool} false true = ap (list_all is_ascii_digit) (sym first) ∙ all_digits n (omega arith) in
    absurd (cc)
  where
    first_of : List (List ℕ) → List ℕ
    first_of [] = []
    first_of (w ∷ ws) = w
never_all least n ns rise false e = refl

pub letters_read : (letters : Letters) → AreLetters letters → letters_in (letters_word letters) ≡ Some letters
letters_read AllLetters are = refl
letters_read (Few []) are = let some = are.0 in absurd (omega arith)
letters_read (Few (n ∷ ns)) are =
    ap (λ b. cond b (Some AllLetters) (option_map Few (numbers_in (letters_word (Few (n ∷ ns))))))
    (never_all 0 n ns are.1 (bytes_eq (join_with_byte 44 (map decimal (n ∷ ns))) (codes "all")) refl)
    ∙ ap (λ (ws : List (List ℕ)). option_map Few (numbers_from [] 0 ws)) (parts_of-numbers 0 n ns are.1)
    ∙ ap (option_map Few) (numbers_read [] 0 (n ∷ ns) are.1)

-- ---- words without a blank and without a line end

numbers_lack : (separator least : ℕ) (ns : List ℕ) → is_ascii_digit separator ≡ false → is_byte separator 44 ≡ false → Rise least ns
    → Lacks separator (join_with_byte 44 (map decimal ns))
numbers_lack separator least [] odd other rise = λ k d less. absurd (omega arith)
numbers_lack separator least (n ∷ []) odd other rise = let most = rise.1 in decimal-lacks separator n odd (omega arith)
numbers_lack separator least (n ∷ m ∷ ns) odd other rise = let most = rise.1 in
    All-append (λ b. is_byte separator b ≡ false) (decimal n) (44 ∷ join_with_byte 44 (map decimal (m ∷ ns))) (decimal-lacks separator n odd (omega arith))
    (All-cons (λ b. is_byte separator b ≡ false) 44 (join_with_byte 44 (map decimal (m ∷ ns))) other (numbers_lack separator (n + 1) (m ∷ ns) odd other rise.2))

pub letters_lack : (separator : ℕ) (letters : Letters) → is_ascii_digit separator ≡ false → is_byte separator 44 ≡ false → Lacks separator (codes "all") → AreLetters letters
    → Lacks separator (letters_word letters)
letters_lack separator AllLetters odd other all are = all
letters_lack separator (Few ns) odd other all are = numbers_lack separator 0 ns odd other are.1
