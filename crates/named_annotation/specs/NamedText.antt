-- The text of an annotation over named states (this project's own): lines that are skipped, the line `annotation P A`, A lines
-- `state K C I I ..`, P lines `CODE K C`, and the line `end`; what follows is free.
use Rattle.std.specs.Prelude.{◌≡◌, ◌==◌, ◌&&◌, ◌||◌, ℕ, ◌+◌, ◌*◌, ◌^◌, Bool, true, not, List, [], ◌∷◌, ◌++◌, length, map, drop, codes, nat_eq, nat_le, nat_lt, Option, Some, None, option_and_then, Result, Ok, Err, if◌then◌else◌, slice_index_or}
use Rattle.std.specs.List.{list_all, list_any, slice_split, starts_with}
use Rattle.std.specs.Option.{option_map_or}
use Rattle.ltl_formula.specs.declared.nodes.FormulaId.{FormulaId}
use Rattle.ltl_formula.specs.declared.nodes.Node.{Node}
use Rattle.obligation_sets.specs.declared.cover_search.TheConstants.{MAX_LEAVES}
use Rattle.obligation_sets.specs.Covers.{set_leaves}
use Rattle.obligation_sets.specs.Ids.{has_id}
use Rattle.cobuchi_build.specs.declared.exploring.State.{State}
use Rattle.cobuchi_build.specs.Explored.{same_state, start_state}
use Rattle.cobuchi_build.specs.Occurring.{occurring, untils_of}
use Rattle.aiger_text.specs.Words.{cut_at, number_within}
use Rattle.annot_check.specs.declared.pairs.Pair.{Pair}
use Rattle.annot_check.specs.AnnotationText.{Headed, head_from, number_in, pairs_in, pieces_of}
use Rattle.named_annotation.specs.declared.words.Counts.{Counts}
use Rattle.named_annotation.specs.NamedStates.{Named, automaton_over}

-- == the head ==

-- the most pairs, states, and steps of a circuit: a step for each pair and each letter that is read
abbrev pub most_pairs : ℕ
most_pairs = 1000000

abbrev pub most_states : ℕ
most_states = 20000

abbrev pub most_steps : ℕ
most_steps = 67108864

-- whether there may be so many pairs of a circuit with so many inputs, and so many states
abbrev pub may_be : ℕ → ℕ → ℕ → Bool
may_be inputs pairs states = nat_lt 0 states && nat_le (pairs * 2 ^ inputs) most_steps

abbrev pub counts_from : ℕ → List ℕ → List ℕ → Option Counts
counts_from inputs first second =
    option_and_then (λ pairs. option_and_then (λ states. if may_be inputs pairs states then Some (record { pairs = pairs; states = states }) else None)
    (number_within most_states second)) (number_within most_pairs first)

-- how many pairs and states a head says, by what stands behind its first word
abbrev pub counts_in : ℕ → List ℕ → Option Counts
counts_in inputs word = option_and_then (λ (cut : List ℕ × List ℕ). counts_from inputs cut.0 cut.1) (cut_at 32 word)

-- == the states ==

-- the words of a line, with one blank between two
abbrev pub words_of : List ℕ → List (List ℕ)
words_of line = slice_split (λ b. b == 32) line

-- these numbers, and those that words write, where each word is a number of 32 bits
abbrev pub numbers_from : List ℕ → List (List ℕ) → Option (List ℕ)
numbers_from done [] = Some done
numbers_from done (word ∷ words) = option_map_or (λ n. numbers_from (done ++ n ∷ []) words) (number_in word) None

abbrev pub numbers_in : List ℕ → Option (List ℕ)
numbers_in line = numbers_from [] (words_of line)

-- what stands behind the first word in a line that names a state
abbrev pub behind_state : List ℕ → Option (List ℕ)
behind_state line = if starts_with nat_eq line (codes "state ") then Some (drop (length (codes "state ")) line) else None

-- each id is above the one before it
abbrev pub rises : List FormulaId → Bool
rises [] = true
rises (g ∷ []) = true
rises (g ∷ h ∷ more) = nat_lt g.0 h.0 && rises (h ∷ more)

-- the state of these numbers: behind its own number its counter, and then the formulas of its set
abbrev pub state_of : List ℕ → State
state_of numbers = record { set = map (λ id. record { 0 = id }) (drop 2 numbers); counter = slice_index_or numbers 1 0 }

-- whether the numbers begin with this number and a counter
abbrev pub is_numbered : ℕ → List ℕ → Bool
is_numbered number numbers = nat_lt 1 (length numbers) && (slice_index_or numbers 0 0 == number)

-- whether a state may be one of f: its ids rise and occur in f, its counter is at most the number of untils
abbrev pub is_of_formula : List Node → FormulaId → State → Bool
is_of_formula ns f state =
    rises state.set && list_all (has_id (occurring ns f)) state.set && nat_le state.counter (length (untils_of ns f))

-- whether a state may stand behind these: the first one is the start, and none stands twice
abbrev pub follows : List State → State → State → Bool
follows done start state = (nat_lt 0 (length done) || same_state state start) && not (list_any (same_state state) done)

-- whether its set has few enough leaves
abbrev pub has_few_leaves : List Node → State → Bool
has_few_leaves ns state = nat_le (length (set_leaves ns state.set)) MAX_LEAVES

-- the state of these numbers, where it may stand behind these
abbrev pub state_from : List Node → FormulaId → List State → List ℕ → Option State
state_from ns f done numbers =
    if is_numbered (length done) numbers && is_of_formula ns f (state_of numbers) && follows done (start_state f) (state_of numbers) && has_few_leaves ns (state_of numbers)
    then Some (state_of numbers) else None

-- the numbers of a line that names a state
abbrev pub numbers_behind : List ℕ → Option (List ℕ)
numbers_behind line = option_and_then numbers_in (behind_state line)

-- the state that a line names behind these
abbrev pub state_in : List Node → FormulaId → List State → List ℕ → Option State
state_in ns f done line = option_and_then (state_from ns f done) (numbers_behind line)

-- == the whole ==

-- what is named and listed by these states and pairs, below a head that is line n
abbrev pub with_pairs : List Node → FormulaId → ℕ → List State → Result (List Pair) ℕ → Result Named ℕ
with_pairs ns f n states (Ok pairs) = Ok (record { states = states; automaton = automaton_over ns f states; list = record { pairs = pairs; head_line = n } })
with_pairs ns f n states (Err line) = Err line

-- The states that these lines name behind those that are done, and the pairs below them, or the first line that is refused. The first
-- line is line n, the head line h.
abbrev pub named_in : ℕ → List Node → FormulaId → ℕ → Counts → List State → List (List ℕ) → ℕ → Result Named ℕ
named_in latches ns f h counts done [] n = Err n
named_in latches ns f h counts done (last ∷ []) n = Err n
named_in latches ns f h counts done (line ∷ next ∷ more) n =
    if nat_lt (length done) counts.states
    then option_map_or (λ state. named_in latches ns f h counts (done ++ state ∷ []) (next ∷ more) (n + 1)) (state_in ns f done line) (Err n)
    else with_pairs ns f h done (pairs_in latches counts.states counts.pairs [] (line ∷ next ∷ more) n)

-- what stands behind a head
abbrev pub named_behind : ℕ → ℕ → List Node → FormulaId → Result Headed ℕ → Result Named ℕ
named_behind latches inputs ns f (Ok head) =
    option_map_or (λ counts. named_in latches ns f head.line counts [] head.parts (head.line + 1)) (counts_in inputs head.word) (Err head.line)
named_behind latches inputs ns f (Err n) = Err n

-- what a text names and lists, for a circuit with so many latches and inputs and a formula, or the first line that is refused
abbrev pub named_reading : ℕ → ℕ → List Node → FormulaId → List ℕ → Result Named ℕ
named_reading latches inputs ns f bytes = named_behind latches inputs ns f (head_from (pieces_of bytes) 1)

-- the text states this annotation over named states
abbrev pub StatesNamed : List ℕ → ℕ → ℕ → List Node → FormulaId → Named → Type 0
StatesNamed bytes latches inputs ns f named = named_reading latches inputs ns f bytes ≡ Ok named

-- the text states none, and this line is the first that is refused
abbrev pub IsFirstBadNamedLine : List ℕ → ℕ → ℕ → List Node → FormulaId → ℕ → Type 0
IsFirstBadNamedLine bytes latches inputs ns f n = named_reading latches inputs ns f bytes ≡ Err n
