-- What is read line by line is what the text states as a whole.
use Rattle.std.proofs.Common.{◌≡◌, ◌≢◌, ◌==◌, ℕ, ◌+◌, ◌<◌, ◌≤◌, Bool, true, false, List, [], ◌∷◌, ◌++◌, Option, Some, None, map, All, length, take, drop, codes, arith, refl, sym, subst, ap, ap₂, ◌∙◌, append-nil, append_assoc, length-append, nat_lt, rules, lit≤, take-append-drop}
use Rattle.std.specs.Prelude.{option_map, if◌then◌else◌}
use Rattle.std.specs.Option.{option_map_or}
use Rattle.std.specs.Str.{bytes_eq}
use Rattle.std.proofs.lemmas.Grind.{common_steps}
use Rattle.std.proofs.lemmas.List.Elements.{All-cons, All-head, All-tail}
use Rattle.std.proofs.lemmas.List.Splits.{join_with_byte-slice_split}
use Rattle.lasso_word.proofs.Readings.{read_line}
use Rattle.std.specs.List.{join_with_byte}
use Rattle.letters_and_lassos.specs.declared.letters.Letter.{Letter}
use Rattle.letters_and_lassos.specs.Word.{Word, lasso_len}
use Rattle.lasso_word.specs.Lines.{parts_at}
use Rattle.lasso_word.specs.WordText.{SoFar, StatesWord, WordReading, word, bad_line, first_line, letter_of, most_letters, nothing_read, read_from, read_lines, reading_of, with_letter, word_of}
use Rattle.lasso_word.specs.Stated.{IsTextOfWord, ReadingsAreApart, WordsAreStated}

word_parts : WordReading → Word
word_parts (word w) = w
word_parts (bad_line n) = record { stem = []; ring = [] }

bad_number : WordReading → ℕ
bad_number (word w) = 0
bad_number (bad_line n) = n

is_word : WordReading → Bool
is_word (word w) = true
is_word (bad_line n) = false

same_word : (v w : Word) → word v ≡ word w → v ≡ w
unfolding word_parts
same_word v w e = ap word_parts e

no_word : {A : Type 0} (n : ℕ) (w : Word) → bad_line n ≡ word w → A
unfolding is_word
no_word n w e = let bad : false ≡ true = ap is_word e in absurd (cc)

pub readings_are_apart : ReadingsAreApart
unfolding bad_number
readings_are_apart = record {
  one_word = λ bytes names v w one two. same_word v w (sym one ∙ two);
  one_line = λ bytes names m n one two. ap bad_number (sym one ∙ two);
  apart = λ bytes names w n one two. no_word n w (sym two ∙ one);
}

module _ (names : List (List ℕ)) where
  abbrev stem_part : List Letter → SoFar
  stem_part letters = record { letters = letters; ring_at = None }

  abbrev ring_part : List Letter → ℕ → SoFar
  ring_part letters at = record { letters = letters; ring_at = Some at }

  abbrev on : List (List ℕ) → ℕ → Option SoFar → WordReading
  on parts n longer = option_map_or (λ longer. read_from names parts longer (n + 1)) longer (bad_line n)

  -- a last line without an end is refused
  open_last : (b : ℕ) (bs : List ℕ) (so_far : SoFar) (n : ℕ) → read_from names ((b ∷ bs) ∷ []) so_far n ≡ bad_line n
  open_last b bs so_far n =
      let some : (length (b ∷ bs) == 0) ≡ false = grind (arith, common_steps) in
      ap (λ t. if t then option_map_or word (word_of so_far) (bad_line n) else bad_line n) some

  -- ---- what is read of the ring

  record RingRead (parts : List (List ℕ)) (letters : List Letter) (at : ℕ) (w : Word) : Type 0 where
    lines : List (List ℕ)
    ring : List Letter
    parts_are : parts ≡ lines ++ [] ∷ []
    letters_are : map (letter_of names) lines ≡ map Some ring
    word_is : w ≡ record { stem = take at (letters ++ ring); ring = drop at (letters ++ ring) }
    goes_on : at < length (letters ++ ring)
    few : length (letters ++ ring) ≤ most_letters

  ring_more : (line : List ℕ) (parts : List (List ℕ)) (letters : List Letter) (letter : Letter) (at : ℕ) (w : Word) → letter_of names line ≡ Some letter →
      RingRead parts (letters ++ letter ∷ []) at w → RingRead (line ∷ parts) letters at w
  ring_more line parts letters letter at w is read =
      let all : (letters ++ letter ∷ []) ++ read.ring ≡ letters ++ letter ∷ read.ring = append_assoc letters (letter ∷ []) read.ring in
      record {
        lines = line ∷ read.lines;
        ring = letter ∷ read.ring;
        parts_are = ap (λ ps. line ∷ ps) read.parts_are;
        letters_are = ap₂ (λ x xs. x ∷ xs) is read.letters_are;
        word_is = read.word_is ∙ ap (λ ls. (let v : Word = record { stem = take at ls; ring = drop at ls } in v)) all;
        goes_on = subst (λ ls. at < length ls) all read.goes_on;
        few = subst (λ ls. length ls ≤ most_letters) all read.few;
      }

  ring_ends : (last : List ℕ) (letters : List Letter) (at n : ℕ) (w : Word) → length letters ≤ most_letters → read_from names (last ∷ []) (ring_part letters at) n ≡ word w →
      RingRead (last ∷ []) letters at w
  ring_ends [] letters at n w few e = by (nat_lt at (length letters)) refl e
    where
      by : (b : Bool) → nat_lt at (length letters) ≡ b
          → option_map_or word (if b then Some (let v : Word = record { stem = take at letters; ring = drop at letters } in v) else None) (bad_line n) ≡ word w → RingRead ([] ∷ []) letters at w
      by true less same = record {
        lines = [];
        ring = [];
        parts_are = refl;
        letters_are = refl;
        word_is = sym (same_word _ w same) ∙ ap (λ ls. (let v : Word = record { stem = take at ls; ring = drop at ls } in v)) (sym (append-nil letters));
        goes_on = grind (arith, common_steps);
        few = grind (arith, common_steps);
      }
      by false less same = no_word n w same
  ring_ends (b ∷ bs) letters at n w few e = no_word n w (sym (open_last b bs (ring_part letters at) n) ∙ e)

  ring_read : (parts : List (List ℕ)) (letters : List Letter) (at n : ℕ) (w : Word) → length letters ≤ most_letters → read_from names parts (ring_part letters at) n ≡ word w →
      RingRead parts letters at w
  ring_read [] letters at n w few e = no_word n w e
  ring_read (last ∷ []) letters at n w few e = ring_ends last letters at n w few e
  ring_read (line ∷ next ∷ more) letters at n w few e =
      by (nat_lt (length letters) most_letters) refl (letter_of names line) refl e (λ letter room. ring_read (next ∷ more) (letters ++ letter ∷ []) at (n + 1) w room)
    where
      by : (b : Bool) → nat_lt (length letters) most_letters ≡ b → (o : Option Letter) → letter_of names line ≡ o
          → on (next ∷ more) n (if b then option_map (with_letter (ring_part letters at)) o else None) ≡ word w
          → ((letter : Letter) → length (letters ++ letter ∷ []) ≤ most_letters → read_from names (next ∷ more) (ring_part (letters ++ letter ∷ []) at) (n + 1) ≡ word w → RingRead (next ∷ more) (letters ++ letter ∷ []) at w)
          → RingRead (line ∷ next ∷ more) letters at w
      by false room o is same later = no_word n w same
      by true room None is same later = no_word n w same
      by true room (Some letter) is same later = ring_more line (next ∷ more) letters letter at w is (later letter (grind (arith, common_steps)) same)

  -- ---- what is read of the stem, and of the ring behind it

  record StemRead (parts : List (List ℕ)) (letters : List Letter) (w : Word) : Type 0 where
    stem_lines : List (List ℕ)
    ring_lines : List (List ℕ)
    stem : List Letter
    parts_are : parts ≡ stem_lines ++ codes "ring" ∷ (ring_lines ++ [] ∷ [])
    stem_letters : map (letter_of names) stem_lines ≡ map Some stem
    ring_letters : map (letter_of names) ring_lines ≡ map Some w.ring
    first_ring : All (λ line. line ≢ codes "ring") stem_lines
    stem_is : w.stem ≡ letters ++ stem
    goes_on : 0 < length w.ring
    few : lasso_len w ≤ most_letters

  same_bytes : (a b : List ℕ) → bytes_eq a b ≡ true → a ≡ b
  same_bytes a b e = search (rules, e)

  other_bytes : (a b : List ℕ) → bytes_eq a b ≡ false → a ≢ b
  other_bytes a b e same = search (rules, e, same)

  stem_ends : (line : List ℕ) (parts : List (List ℕ)) (letters : List Letter) (w : Word) → line ≡ codes "ring" → RingRead parts letters (length letters) w → StemRead (line ∷ parts) letters w
  stem_ends line parts letters w is read =
      let front : take (length letters) (letters ++ read.ring) ≡ letters = grind (arith, common_steps) in
      let back : drop (length letters) (letters ++ read.ring) ≡ read.ring = grind (arith, common_steps) in
      let stem_is : w.stem ≡ letters = ap (λ (v : Word). v.stem) read.word_is ∙ front in
      let ring_is : w.ring ≡ read.ring = ap (λ (v : Word). v.ring) read.word_is ∙ back in
      record {
        stem_lines = [];
        ring_lines = read.lines;
        stem = [];
        parts_are = ap₂ (λ x xs. x ∷ xs) is read.parts_are;
        stem_letters = refl;
        ring_letters = read.letters_are ∙ ap (map Some) (sym ring_is);
        first_ring = λ k x l. absurd (omega arith);
        stem_is = stem_is ∙ sym (append-nil letters);
        goes_on = let more : length letters < length letters + length read.ring = rw (← length-append letters read.ring) read.goes_on in rw ring_is (omega (arith, more));
        few = rw (stem_is, ring_is, ← length-append letters read.ring) read.few;
      }

  stem_more : (line : List ℕ) (parts : List (List ℕ)) (letters : List Letter) (letter : Letter) (w : Word) → line ≢ codes "ring" → letter_of names line ≡ Some letter →
      StemRead parts (letters ++ letter ∷ []) w → StemRead (line ∷ parts) letters w
  stem_more line parts letters letter w other is read = record {
    stem_lines = line ∷ read.stem_lines;
    ring_lines = read.ring_lines;
    stem = letter ∷ read.stem;
    parts_are = ap (λ ps. line ∷ ps) read.parts_are;
    stem_letters = ap₂ (λ x xs. x ∷ xs) is read.stem_letters;
    ring_letters = read.ring_letters;
    first_ring = All-cons (λ l. l ≢ codes "ring") line read.stem_lines other read.first_ring;
    stem_is = read.stem_is ∙ append_assoc letters (letter ∷ []) read.stem;
    goes_on = read.goes_on;
    few = read.few;
  }

  stem_read : (parts : List (List ℕ)) (letters : List Letter) (n : ℕ) (w : Word) → length letters ≤ most_letters → read_from names parts (stem_part letters) n ≡ word w →
      StemRead parts letters w
  stem_read [] letters n w few e = no_word n w e
  stem_read ([] ∷ []) letters n w few e = no_word n w e
  stem_read ((b ∷ bs) ∷ []) letters n w few e = no_word n w (sym (open_last b bs (stem_part letters) n) ∙ e)
  stem_read (line ∷ next ∷ more) letters n w few e =
      by (bytes_eq line (codes "ring")) refl (nat_lt (length letters) most_letters) refl (letter_of names line) refl e
      (λ same. ring_read (next ∷ more) letters (length letters) (n + 1) w few same)
      (λ letter room. stem_read (next ∷ more) (letters ++ letter ∷ []) (n + 1) w room)
    where
      by : (r : Bool) → bytes_eq line (codes "ring") ≡ r → (b : Bool) → nat_lt (length letters) most_letters ≡ b → (o : Option Letter) → letter_of names line ≡ o
          → on (next ∷ more) n (if r then Some (ring_part letters (length letters)) else if b then option_map (with_letter (stem_part letters)) o else None) ≡ word w
          → (read_from names (next ∷ more) (ring_part letters (length letters)) (n + 1) ≡ word w → RingRead (next ∷ more) letters (length letters) w)
          → ((letter : Letter) → length (letters ++ letter ∷ []) ≤ most_letters → read_from names (next ∷ more) (stem_part (letters ++ letter ∷ [])) (n + 1) ≡ word w → StemRead (next ∷ more) (letters ++ letter ∷ []) w)
          → StemRead (line ∷ next ∷ more) letters w
      by true ring b room o is same in_ring later = stem_ends line (next ∷ more) letters w (same_bytes line (codes "ring") ring) (in_ring same)
      by false ring false room o is same in_ring later = no_word n w same
      by false ring true room None is same in_ring later = no_word n w same
      by false ring true room (Some letter) is same in_ring later =
          stem_more line (next ∷ more) letters letter w (other_bytes line (codes "ring") ring) is (later letter (grind (arith, common_steps)) same)

  -- ---- the lines of a word are read as it

  last_part : (lines : List (List ℕ)) → 0 < length (lines ++ [] ∷ [])
  last_part lines = grind (arith, common_steps)

  ring_states : (lines : List (List ℕ)) (ring letters : List Letter) (at n : ℕ) → map (letter_of names) lines ≡ map Some ring → length (letters ++ ring) ≤ most_letters → at < length (letters ++ ring) →
      read_from names (lines ++ [] ∷ []) (ring_part letters at) n ≡ word (record { stem = take at (letters ++ ring); ring = drop at (letters ++ ring) })
  ring_states [] [] letters at n are few less =
      let all : letters ++ [] ≡ letters = append-nil letters in
      let test : nat_lt at (length letters) ≡ true = grind (arith, common_steps) in
      ap (λ t. option_map_or word (if t then Some (let v : Word = record { stem = take at letters; ring = drop at letters } in v) else None) (bad_line n)) test
      ∙ ap (λ ls. word (record { stem = take at ls; ring = drop at ls })) (sym all)
  ring_states [] (r ∷ ring) letters at n are few less = cc
  ring_states (line ∷ lines) [] letters at n are few less = cc
  ring_states (line ∷ lines) (r ∷ ring) letters at n are few less =
      let is : letter_of names line ≡ Some r = cc in
      let later : map (letter_of names) lines ≡ map Some ring = cc in
      let all : (letters ++ r ∷ []) ++ ring ≡ letters ++ r ∷ ring = append_assoc letters (r ∷ []) ring in
      let room : nat_lt (length letters) most_letters ≡ true = grind (arith, common_steps) in
      read_line names (lines ++ [] ∷ []) line (ring_part letters at) n (last_part lines)
      ∙ ap₂ (λ b o. on (lines ++ [] ∷ []) n (if b then option_map (with_letter (ring_part letters at)) o else None)) room is
      ∙ ring_states lines ring (letters ++ r ∷ []) at (n + 1) later (subst (λ ls. length ls ≤ most_letters) (sym all) few) (subst (λ ls. at < length ls) (sym all) less)
      ∙ ap (λ ls. word (record { stem = take at ls; ring = drop at ls })) all

  stem_states : (stem_lines ring_lines : List (List ℕ)) (stem ring letters : List Letter) (n : ℕ) → map (letter_of names) stem_lines ≡ map Some stem → map (letter_of names) ring_lines ≡ map Some ring →
      All (λ line. line ≢ codes "ring") stem_lines → 0 < length ring → length (letters ++ stem) + length ring ≤ most_letters →
      read_from names (stem_lines ++ codes "ring" ∷ (ring_lines ++ [] ∷ [])) (stem_part letters) n ≡ word (record { stem = letters ++ stem; ring = ring })
  stem_states [] ring_lines [] ring letters n stem_are ring_are first some few =
      let enough : length (letters ++ ring) ≤ most_letters = rw (length-append letters ring) (subst (λ ls. length ls + length ring ≤ most_letters) (append-nil letters) few) in
      let more : length letters < length (letters ++ ring) = rw (length-append letters ring) (omega (arith, some)) in
      let front : take (length letters) (letters ++ ring) ≡ letters ++ [] = grind (arith, common_steps) in
      let back : drop (length letters) (letters ++ ring) ≡ ring = grind (arith, common_steps) in
      read_line names (ring_lines ++ [] ∷ []) (codes "ring") (stem_part letters) n (last_part ring_lines)
      ∙ ring_states ring_lines ring letters (length letters) (n + 1) ring_are enough more
      ∙ ap₂ (λ f b. word (record { stem = f; ring = b })) front back
  stem_states [] ring_lines (r ∷ stem) ring letters n stem_are ring_are first some few = cc
  stem_states (line ∷ lines) ring_lines [] ring letters n stem_are ring_are first some few = cc
  stem_states (line ∷ lines) ring_lines (r ∷ stem) ring letters n stem_are ring_are first some few =
      let is : letter_of names line ≡ Some r = cc in
      let later : map (letter_of names) lines ≡ map Some stem = cc in
      let all : (letters ++ r ∷ []) ++ stem ≡ letters ++ r ∷ stem = append_assoc letters (r ∷ []) stem in
      let room : nat_lt (length letters) most_letters ≡ true = grind (arith, common_steps) in
      let other : bytes_eq line (codes "ring") ≡ false = not_ring line (All-head (λ l. l ≢ codes "ring") line lines first) in
      let parts = lines ++ codes "ring" ∷ (ring_lines ++ [] ∷ []) in
      read_line names parts line (stem_part letters) n (grind (arith, common_steps))
      ∙ ap (λ r. on parts n (if r then Some (ring_part letters (length letters)) else if nat_lt (length letters) most_letters then option_map (with_letter (stem_part letters)) (letter_of names line) else None)) other
      ∙ ap₂ (λ b o. on parts n (if b then option_map (with_letter (stem_part letters)) o else None)) room is
      ∙ stem_states lines ring_lines stem ring (letters ++ r ∷ []) (n + 1) later ring_are (All-tail (λ l. l ≢ codes "ring") line lines first) some (subst (λ ls. length ls + length ring ≤ most_letters) (sym all) few)
      ∙ ap (λ ls. word (record { stem = ls; ring = ring })) all
    where
      not_ring : (line : List ℕ) → line ≢ codes "ring" → bytes_eq line (codes "ring") ≡ false
      not_ring line other = by (bytes_eq line (codes "ring")) refl
        where
          by : (b : Bool) → bytes_eq line (codes "ring") ≡ b → bytes_eq line (codes "ring") ≡ false
          by true e = absurd (other (same_bytes line (codes "ring") e))
          by false e = e

  -- ---- the whole text

  to_text : (bytes : List ℕ) (w : Word) → StatesWord bytes names w → IsTextOfWord bytes names w
  to_text bytes w states = by (bytes_eq (take (length first_line) bytes) first_line) refl states
    where
      by : (b : Bool) → bytes_eq (take (length first_line) bytes) first_line ≡ b → (if b then read_lines names (drop (length first_line) bytes) else bad_line 1) ≡ word w → IsTextOfWord bytes names w
      by false test same = no_word 1 w same
      by true test same =
          let rest = drop (length first_line) bytes in
          let front : take (length first_line) bytes ≡ first_line = same_bytes _ _ test in
          let cut : bytes ≡ first_line ++ rest = sym (take-append-drop (length first_line) bytes) ∙ ap (λ f. f ++ rest) front in
          let read = stem_read (parts_at 10 rest) [] 2 w (lit≤ tt) same in
          record {
            stem_lines = read.stem_lines;
            ring_lines = read.ring_lines;
            lines = ap (parts_at 10) cut ∙ ap (λ ps. codes "stem" ∷ ps) read.parts_are;
            stem_letters = read.stem_letters ∙ ap (map Some) (sym read.stem_is);
            ring_letters = read.ring_letters;
            first_ring = read.first_ring;
            goes_on = read.goes_on;
            few = read.few;
          }

  -- the bytes of a first part and more parts
  joined_first : (bytes : List ℕ) (parts : List (List ℕ)) → 0 < length parts → parts_at 10 bytes ≡ codes "stem" ∷ parts → bytes ≡ first_line ++ join_with_byte 10 parts
  joined_first bytes [] some is = absurd (omega arith)
  joined_first bytes (part ∷ parts) some is = sym (join_with_byte-slice_split 10 bytes) ∙ ap (join_with_byte 10) is

  from_text : (bytes : List ℕ) (w : Word) → IsTextOfWord bytes names w → StatesWord bytes names w
  from_text bytes w text =
      let parts = text.stem_lines ++ codes "ring" ∷ (text.ring_lines ++ [] ∷ []) in
      let rest = join_with_byte 10 parts in
      let cut : bytes ≡ first_line ++ rest = joined_first bytes parts (grind (arith, common_steps)) text.lines in
      let both : codes "stem" ∷ parts_at 10 rest ≡ codes "stem" ∷ parts = sym (ap (parts_at 10) cut) ∙ text.lines in
      let parts_are : parts_at 10 rest ≡ parts = cc in
      ap (reading_of names) cut
      ∙ ap (λ ps. read_from names ps nothing_read 2) parts_are
      ∙ stem_states text.stem_lines text.ring_lines w.stem w.ring [] 2 text.stem_letters text.ring_letters text.first_ring text.goes_on text.few

pub words_are_stated : WordsAreStated
words_are_stated bytes names w = (to_text names bytes w, from_text names bytes w)
