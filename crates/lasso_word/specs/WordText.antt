-- The text of a lasso of letters over named signals (this project's own): the line `stem`, a line for each letter of the
-- stem, the line `ring`, and a line for each letter of the ring, of which there is at least one.
use Rattle.std.specs.Prelude.{◌≡◌, ◌==◌, ℕ, ◌+◌, ◌^◌, ◌&&◌, List, [], ◌∷◌, ◌++◌, length, take, drop, codes, position, bit_or, Option, Some, None, is_none, option_map, option_and_then, nat_lt, if◌then◌else◌}
use Rattle.std.specs.Option.{option_map_or}
use Rattle.std.specs.Str.{bytes_eq}
use Rattle.letters_and_lassos.specs.declared.letters.Letter.{Letter}
use Rattle.letters_and_lassos.specs.Signals.{has}
use Rattle.letters_and_lassos.specs.Word.{Word, no_signals}
use Rattle.lasso_word.specs.Lines.{parts_at}

-- the most letters that a word may have
abbrev pub most_letters : ℕ
most_letters = 10000

-- one signal more
abbrev pub with_signal : Letter → ℕ → Letter
with_signal letter signal = record { 0 = bit_or letter.0 (2 ^ signal) }

-- the letter with the signal of this name, which it hasn't had
abbrev pub with_named : List (List ℕ) → Letter → List ℕ → Option Letter
with_named names letter name =
    option_and_then (λ signal. if has letter.0 signal then None else Some (with_signal letter signal))
    (position (bytes_eq name) names)

-- the letter with the signals of all these names
abbrev pub with_all_named : List (List ℕ) → List (List ℕ) → Letter → Option Letter
with_all_named names [] letter = Some letter
with_all_named names (name ∷ more) letter = option_and_then (with_all_named names more) (with_named names letter name)

-- the letter that a line states: `-`, or names with one blank between them, each once
abbrev pub letter_of : List (List ℕ) → List ℕ → Option Letter
letter_of names line =
    if bytes_eq line (codes "-") then Some no_signals else with_all_named names (parts_at 32 line) no_signals

-- the letters that the lines stated, and how many of them are the stem's once the line `ring` has come
pub record SoFar : Type 0 where
  pub letters : List Letter
  pub ring_at : Option ℕ

abbrev pub nothing_read : SoFar
nothing_read = record { letters = []; ring_at = None }

abbrev pub with_letter : SoFar → Letter → SoFar
with_letter so_far letter = record so_far { letters = so_far.letters ++ letter ∷ [] }

-- after one more line, if it may stand here
abbrev pub continued : List (List ℕ) → SoFar → List ℕ → Option SoFar
continued names so_far line =
    if is_none so_far.ring_at && bytes_eq line (codes "ring")
    then Some (record so_far { ring_at = Some (length so_far.letters) })
    else if nat_lt (length so_far.letters) most_letters
    then option_map (with_letter so_far) (letter_of names line)
    else None

-- the word, where its ring has a letter
abbrev pub word_of : SoFar → Option Word
word_of so_far = option_and_then (λ at. if nat_lt at (length so_far.letters)
    then Some (record { stem = take at so_far.letters; ring = drop at so_far.letters }) else None) so_far.ring_at

-- what a text is: a word, or refused at a line
pub data WordReading : Type 0 where
  word : Word → WordReading
  bad_line : ℕ → WordReading

-- The text's parts at its line ends, of which the first is line n and the last one isn't ended.
abbrev pub read_from : List (List ℕ) → List (List ℕ) → SoFar → ℕ → WordReading
read_from names [] so_far n = bad_line n
read_from names (last ∷ []) so_far n =
    if length last == 0 then option_map_or word (word_of so_far) (bad_line n) else bad_line n
read_from names (line ∷ next ∷ more) so_far n =
    option_map_or (λ longer. read_from names (next ∷ more) longer (n + 1)) (continued names so_far line) (bad_line n)

-- behind the line `stem`
abbrev pub read_lines : List (List ℕ) → List ℕ → WordReading
read_lines names bytes = read_from names (parts_at 10 bytes) nothing_read 2

abbrev pub first_line : List ℕ
first_line = codes "stem\n"

-- what the whole text is: its first line is `stem`
abbrev pub reading_of : List (List ℕ) → List ℕ → WordReading
reading_of names bytes =
    if bytes_eq (take (length first_line) bytes) first_line
    then read_lines names (drop (length first_line) bytes)
    else bad_line 1

-- the text states this word, over the signals of these names
abbrev pub StatesWord : List ℕ → List (List ℕ) → Word → Type 0
StatesWord bytes names w = reading_of names bytes ≡ word w

-- the text states no word, and this line is the first that is refused
abbrev pub IsFirstBadWordLine : List ℕ → List (List ℕ) → ℕ → Type 0
IsFirstBadWordLine bytes names n = reading_of names bytes ≡ bad_line n
