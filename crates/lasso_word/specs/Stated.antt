-- Which word a text states, said of its lines as a whole (this project's own).
use Rattle.std.specs.Prelude.{◌==◌, Bool, false, position, if◌then◌else◌, ◌≡◌, ◌≢◌, ◌↔◌, ◌<◌, ◌≤◌, ℕ, List, [], ◌∷◌, ◌++◌, Some, All, codes, length, map}
use Rattle.std.specs.List.{list_any}
use Rattle.std.specs.Option.{option_map_or}
use Rattle.std.specs.Str.{bytes_eq}
use Rattle.letters_and_lassos.specs.declared.letters.Letter.{Letter}
use Rattle.letters_and_lassos.specs.Signals.{has}
use Rattle.letters_and_lassos.specs.Word.{Word, lasso_len}
use Rattle.lasso_word.specs.Lines.{parts_at}
use Rattle.lasso_word.specs.WordText.{StatesWord, IsFirstBadWordLine, letter_of, most_letters}

-- The text is the line `stem`, the lines of the stem's letters, the line `ring` and the lines of the ring's letters, with
-- nothing behind the last line end. The first line `ring` ends the stem.
pub record IsTextOfWord (bytes : List ℕ) (names : List (List ℕ)) (w : Word) : Type 0 where
  pub stem_lines : List (List ℕ)
  pub ring_lines : List (List ℕ)
  pub lines : parts_at 10 bytes ≡ codes "stem" ∷ (stem_lines ++ codes "ring" ∷ (ring_lines ++ [] ∷ []))
  pub stem_letters : map (letter_of names) stem_lines ≡ map Some w.stem
  pub ring_letters : map (letter_of names) ring_lines ≡ map Some w.ring
  pub first_ring : All (λ line. line ≢ codes "ring") stem_lines
  pub goes_on : 0 < length w.ring
  pub few : lasso_len w ≤ most_letters

-- a name of the line is the one of this signal, the first of that name
abbrev pub names_signal : List (List ℕ) → ℕ → List ℕ → Bool
names_signal names k name = option_map_or (λ place. place == k) (position (bytes_eq name) names) false

-- the letter that a line states has exactly the signals that the line names
abbrev pub LettersHaveTheirNames : Type 0
LettersHaveTheirNames = (names : List (List ℕ)) (line : List ℕ) (letter : Letter) (k : ℕ) → letter_of names line ≡ Some letter →
    has letter.0 k ≡ (if bytes_eq line (codes "-") then false else list_any (names_signal names k) (parts_at 32 line))

-- what is read line by line is what the text states as a whole
abbrev pub WordsAreStated : Type 0
WordsAreStated = (bytes : List ℕ) (names : List (List ℕ)) (w : Word) → StatesWord bytes names w ↔ IsTextOfWord bytes names w

-- a text states at most one word, has at most one first bad line, and not both
pub record ReadingsAreApart : Type 0 where
  pub one_word : (bytes : List ℕ) (names : List (List ℕ)) (v w : Word) → StatesWord bytes names v → StatesWord bytes names w → v ≡ w
  pub one_line : (bytes : List ℕ) (names : List (List ℕ)) (m n : ℕ) → IsFirstBadWordLine bytes names m → IsFirstBadWordLine bytes names n → m ≡ n
  pub apart : (bytes : List ℕ) (names : List (List ℕ)) (w : Word) (n : ℕ) → StatesWord bytes names w → IsFirstBadWordLine bytes names n → ⊥
