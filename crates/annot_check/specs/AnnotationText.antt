-- The text of an annotation (this project's own): lines that are skipped, the line `annotation P`, P lines `CODE Q C`, and the line
-- `end`; what follows is free.
use Rattle.std.specs.Prelude.{◌≡◌, ◌==◌, ◌&&◌, ◌||◌, ℕ, ◌+◌, Bool, List, [], ◌∷◌, ◌++◌, length, map, drop, codes, nat_lt, Option, Some, None, is_some, option_and_then, Result, Ok, Err, if◌then◌else◌}
use Rattle.std.specs.List.{list_all, list_any, slice_split, starts_with}
use Rattle.std.specs.Option.{option_map_or}
use Rattle.std.specs.Str.{bytes_eq}
use Rattle.std.specs.Prelude.{nat_eq}
use Rattle.text_limits.specs.declared.TheConstants.{ANNOTATION_PAIRS}
use Rattle.aiger_text.specs.Words.{cut_at, number_within}
use Rattle.annot_check.specs.declared.pairs.Pair.{Pair}
use Rattle.annot_check.specs.Pairs.{Listed}
use Rattle.annot_check.specs.Place.{same_code}

-- the parts between the line ends; the last one isn't ended
abbrev pub pieces_of : List ℕ → List (List ℕ)
pieces_of bytes = slice_split (λ b. b == 10) bytes

-- what the head begins with
abbrev pub head_word : List ℕ
head_word = codes "annotation "

-- what stands behind that in a line that begins so
abbrev pub behind_head : List ℕ → Option (List ℕ)
behind_head line = if starts_with nat_eq line head_word then Some (drop (length head_word) line) else None

-- how many pairs a head says
abbrev pub count_of : List ℕ → Option ℕ
count_of word = number_within ANNOTATION_PAIRS word

-- the digit 0 or 1
abbrev pub is_bit : ℕ → Bool
is_bit b = (b == 48) || (b == 49)

-- a digit for each latch, latch 0 first, or `-` where there is none
abbrev pub is_code : ℕ → List ℕ → Bool
is_code latches word =
    if latches == 0 then bytes_eq word (codes "-") else ((length word == latches) && list_all is_bit word)

-- the values that such digits write
abbrev pub code_of : ℕ → List ℕ → List Bool
code_of latches word = if latches == 0 then [] else map (λ b. b == 49) word

-- a number of 32 bits
abbrev pub number_in : List ℕ → Option ℕ
number_in word = number_within 4294967295 word

-- the number of one of so many states
abbrev pub state_in : ℕ → List ℕ → Option ℕ
state_in states word = option_and_then (λ state. if nat_lt state states then Some state else None) (number_in word)

-- the pair of these three words
abbrev pub pair_of : ℕ → ℕ → List ℕ → List ℕ → List ℕ → Option Pair
pair_of latches states code state number =
    option_and_then (λ q. option_and_then (λ c. if is_code latches code
    then Some (record { code = code_of latches code; state = q; number = c }) else None) (number_in number)) (state_in states state)

-- the pair that a line states: three words, with one blank between them
abbrev pub pair_in : ℕ → ℕ → List ℕ → Option Pair
pair_in latches states line =
    option_and_then (λ (first : List ℕ × List ℕ). option_and_then (λ (second : List ℕ × List ℕ).
    pair_of latches states first.0 second.0 second.1) (cut_at 32 first.1)) (cut_at 32 line)

-- whether two pairs are of the same latch values and the same state
abbrev pub same_place : Pair → Pair → Bool
same_place p q = same_code p.code q.code && (p.state == q.state)

-- whether the place of a pair is taken
abbrev pub is_taken : Pair → List Pair → Bool
is_taken pair pairs = list_any (same_place pair) pairs

-- So many pairs, of which some are done, and the line `end`, or the first line that is refused: it isn't of its form, states a place
-- again, isn't ended or is missing. The first part is line n.
abbrev pub pairs_in : ℕ → ℕ → ℕ → List Pair → List (List ℕ) → ℕ → Result (List Pair) ℕ
pairs_in latches states count done [] n = Err n
pairs_in latches states count done (last ∷ []) n = Err n
pairs_in latches states count done (line ∷ next ∷ more) n =
    if nat_lt (length done) count
    then option_map_or (λ pair. if is_taken pair done then Err n
    else pairs_in latches states count (done ++ pair ∷ []) (next ∷ more) (n + 1)) (pair_in latches states line) (Err n)
    else (if bytes_eq line (codes "end") then Ok done else Err n)

-- the list of these pairs, whose head is this line
abbrev pub with_head : ℕ → Result (List Pair) ℕ → Result Listed ℕ
with_head n (Ok pairs) = Ok (record { pairs = pairs; head_line = n })
with_head n (Err line) = Err line

-- the pairs behind a head that is line n
abbrev pub listed_in : ℕ → ℕ → List (List ℕ) → ℕ → ℕ → Result Listed ℕ
listed_in latches states parts n count = with_head n (pairs_in latches states count [] parts (n + 1))

-- a head: what stands behind its first word, its line, and the parts behind that line
pub record Headed : Type 0 where
  pub word : List ℕ
  pub line : ℕ
  pub parts : List (List ℕ)

-- The first line that begins as a head is one. A last part that isn't ended counts as a line that is skipped where it isn't empty, unless
-- it begins as a head.
abbrev pub head_from : List (List ℕ) → ℕ → Result Headed ℕ
head_from [] n = Err n
head_from (last ∷ []) n = if (length last == 0) || is_some (behind_head last) then Err n else Err (n + 1)
head_from (line ∷ next ∷ more) n =
    option_map_or (λ word. Ok (record { word = word; line = n; parts = next ∷ more })) (behind_head line) (head_from (next ∷ more) (n + 1))

-- the list behind a head
abbrev pub list_behind : ℕ → ℕ → Result Headed ℕ → Result Listed ℕ
list_behind latches states (Ok head) = option_map_or (listed_in latches states head.parts head.line) (count_of head.word) (Err head.line)
list_behind latches states (Err n) = Err n

-- what a text states: a list of pairs, or the first line that is refused
abbrev pub reading_of : ℕ → ℕ → List ℕ → Result Listed ℕ
reading_of latches states bytes = list_behind latches states (head_from (pieces_of bytes) 1)

-- the text states this list of pairs, for so many latches and states
abbrev pub StatesPairs : List ℕ → ℕ → ℕ → Listed → Type 0
StatesPairs bytes latches states list = reading_of latches states bytes ≡ Ok list

-- the text states no list of pairs, and this line is the first that is refused
abbrev pub IsFirstBadAnnotationLine : List ℕ → ℕ → ℕ → ℕ → Type 0
IsFirstBadAnnotationLine bytes latches states n = reading_of latches states bytes ≡ Err n
