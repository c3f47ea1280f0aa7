-- What a circuit's file states, line by line, and its first fault (AIGER 1.9, in this project's subset). A file's
-- lines are the pieces between its line ends; the last piece, which nothing ends, is no line.
use Rattle.std.specs.Prelude.{◌≡◌, ◌==◌, ℕ, ◌+◌, ◌-◌, ◌*◌, ◌/◌, ◌%◌, ◌<◌, Bool, true, false, not, ◌&&◌, ◌||◌, Option, Some, None, Result, Ok, Err, List, [], ◌∷◌, ◌++◌, map, length, replicate, codes, min, nat_lt, nat_le, slice_index, slice_set, option_map, option_and_then, if◌then◌else◌}
use Rattle.std.specs.List.{slice_split, join_with_byte, list_any, list_all, position_from}
use Rattle.std.specs.Str.{bytes_eq}
use Rattle.text_limits.specs.declared.TheConstants.{CIRCUIT_VARIABLES}
use Rattle.aiger_text.specs.declared.circuits.Latch.{Latch}
use Rattle.aiger_text.specs.declared.circuits.Gate.{Gate}
use Rattle.aiger_text.specs.declared.counts.Counts.{Counts}
use Rattle.aiger_text.specs.declared.symbols.Named.{Named}
use Rattle.aiger_text.specs.declared.symbols.Named.TheVariants.{AnInput, ALatch, AnOutput}
use Rattle.aiger_text.specs.declared.faults.CircuitFault.{CircuitFault}
use Rattle.aiger_text.specs.declared.faults.CircuitFault.TheVariants.{BadHeader, BadLine, Undefined, DefinedTwice, Cycle, Unsupported, TooLarge}
use Rattle.aiger_text.specs.Circuit.{Circuit}
use Rattle.aiger_text.specs.Walks.{IsOnCycle, IsFirstCycle}
use Rattle.aiger_text.specs.CircuitText.{Symbol}
use Rattle.names_and_numbers.specs.Numerals.{decimal_value}
use Rattle.aiger_text.specs.Words.{is_byte, cut_at, is_numeral, number_within}

abbrev pub lines_of : List ℕ → List (List ℕ)
lines_of bytes = slice_split (is_byte 10) bytes

abbrev pub words_of : List ℕ → List (List ℕ)
words_of line = slice_split (is_byte 32) line

-- what follows where the first reading succeeds
abbrev pub and_then : {X Y : Type 0} → (X → Result Y CircuitFault) → Result X CircuitFault → Result Y CircuitFault
and_then next (Ok x) = next x
and_then next (Err fault) = Err fault

-- == the header ==

-- the numbers of a header: the five counts, and the further ones
pub record Header : Type 0 where
  pub counts : Counts
  pub further : List ℕ

-- the numbers that words write, where each writes one
abbrev pub numbers_of : List (List ℕ) → Option (List ℕ)
numbers_of words = if list_all is_numeral words then Some (map decimal_value words) else None

-- five counts and at most four further ones
abbrev pub header_of_numbers : List ℕ → Option Header
header_of_numbers (variables ∷ inputs ∷ latches ∷ outputs ∷ gates ∷ further) =
    if nat_le (length further) 4
    then Some (record { counts = record { variables = variables; inputs = inputs; latches = latches; outputs = outputs; gates = gates }; further = further })
    else None
header_of_numbers _ = None

abbrev pub header_of_words : List (List ℕ) → Option Header
header_of_words words = option_and_then header_of_numbers (numbers_of words)

-- what follows the mark `aag ` at a line's begin
abbrev pub behind_mark : List ℕ → Option (List ℕ)
behind_mark (a ∷ b ∷ c ∷ d ∷ text) = if (a == 97) && (b == 97) && (c == 103) && (d == 32) then Some text else None
behind_mark _ = None

abbrev pub header_of : List ℕ → Option Header
header_of line = option_and_then (λ text. header_of_words (words_of text)) (behind_mark line)

-- the counts of the first line, or its first fault; more outputs than a file has room for are as good as `room`
abbrev pub counts_in : ℕ → Option Header → Result Counts CircuitFault
counts_in room None = Err (BadHeader 1)
counts_in room (Some header) =
    if nat_lt header.counts.variables (header.counts.inputs + (header.counts.latches + header.counts.gates)) then Err (BadHeader 1)
    else (if nat_lt CIRCUIT_VARIABLES header.counts.variables then Err (TooLarge 1)
    else (if not (list_all (λ n. n == 0) header.further) then Err (Unsupported 1)
    else Ok (record header.counts { outputs = min header.counts.outputs room })))

-- == the lines of numbers ==

-- what the lines so far state
pub record Draft : Type 0 where
  pub counts : Counts
  pub inputs : List ℕ
  pub latches : List Latch
  pub outputs : List ℕ
  pub gates : List Gate

-- a line so far defines this variable
abbrev pub defines : Draft → ℕ → Bool
defines d v =
    list_any (λ literal. literal / 2 == v) d.inputs
    || (list_any (λ latch. latch.literal / 2 == v) d.latches || list_any (λ gate. gate.literal / 2 == v) d.gates)

-- the literal that a word writes
abbrev pub literal_in : Counts → List ℕ → Option ℕ
literal_in counts word = number_within (2 * counts.variables + 1) word

-- the literal that a word writes, where it is one that a line may define
abbrev pub definable_in : Counts → List ℕ → Option ℕ
definable_in counts word = option_and_then (λ literal. if (literal % 2 == 0) && not (literal == 0) then Some literal else None) (literal_in counts word)

-- the latch that line n states by its literal, its next literal and its reset
abbrev pub latch_of : ℕ → Option ℕ → Option ℕ → Option ℕ → Result Latch CircuitFault
latch_of n (Some literal) (Some next) (Some reset) =
    if reset == literal then Err (Unsupported n)
    else (if nat_le reset 1 then Ok (record { literal = literal; next = next; reset = reset == 1 }) else Err (BadLine n))
latch_of n _ _ _ = Err (BadLine n)

abbrev pub latch_of_rest : Counts → ℕ → List ℕ → List ℕ → Option (List ℕ × List ℕ) → Result Latch CircuitFault
latch_of_rest counts n literal rest None = latch_of n (definable_in counts literal) (literal_in counts rest) (Some 0)
latch_of_rest counts n literal rest (Some words) = latch_of n (definable_in counts literal) (literal_in counts words.0) (literal_in counts words.1)

abbrev pub latch_of_words : Counts → ℕ → Option (List ℕ × List ℕ) → Result Latch CircuitFault
latch_of_words counts n None = Err (BadLine n)
latch_of_words counts n (Some words) = latch_of_rest counts n words.0 words.1 (cut_at 32 words.1)

abbrev pub latch_in : Counts → ℕ → List ℕ → Result Latch CircuitFault
latch_in counts n line = latch_of_words counts n (cut_at 32 line)

abbrev pub gate_in : Counts → List ℕ → Option Gate
gate_in counts line =
    option_and_then (λ first. option_and_then (λ second. option_and_then (λ literal. option_and_then (λ left.
    option_map (λ right. record { literal = literal; left = left; right = right })
    (literal_in counts second.1)) (literal_in counts second.0)) (definable_in counts first.0))
    (cut_at 32 first.1)) (cut_at 32 line)

-- the draft with one more input, latch, output or gate, by line n
abbrev pub with_input : Draft → ℕ → Option ℕ → Result Draft CircuitFault
with_input d n None = Err (BadLine n)
with_input d n (Some literal) =
    if defines d (literal / 2) then Err (DefinedTwice n) else Ok (record d { inputs = d.inputs ++ literal ∷ [] })

abbrev pub with_latch : Draft → ℕ → Latch → Result Draft CircuitFault
with_latch d n latch =
    if defines d (latch.literal / 2) then Err (DefinedTwice n) else Ok (record d { latches = d.latches ++ latch ∷ [] })

abbrev pub with_output : Draft → ℕ → Option ℕ → Result Draft CircuitFault
with_output d n None = Err (BadLine n)
with_output d n (Some literal) = Ok (record d { outputs = d.outputs ++ literal ∷ [] })

abbrev pub with_gate : Draft → ℕ → Option Gate → Result Draft CircuitFault
with_gate d n None = Err (BadLine n)
with_gate d n (Some gate) =
    if defines d (gate.literal / 2) then Err (DefinedTwice n) else Ok (record d { gates = d.gates ++ gate ∷ [] })

-- the draft with what line n states, or the line's fault
abbrev pub with_line : Draft → ℕ → List ℕ → Result Draft CircuitFault
with_line d n line =
    if nat_lt (length d.inputs) d.counts.inputs then with_input d n (definable_in d.counts line)
    else (if nat_lt (length d.latches) d.counts.latches then and_then (with_latch d n) (latch_in d.counts n line)
    else (if nat_lt (length d.outputs) d.counts.outputs then with_output d n (literal_in d.counts line)
    else with_gate d n (gate_in d.counts line)))

-- all that the header counts is there
abbrev pub is_whole : Draft → Bool
is_whole d =
    nat_le d.counts.inputs (length d.inputs) && (nat_le d.counts.latches (length d.latches)
    && (nat_le d.counts.outputs (length d.outputs) && nat_le d.counts.gates (length d.gates)))

-- what the lines of numbers state, with the line behind them and the pieces from there on
pub record Body : Type 0 where
  pub draft : Draft
  pub line : ℕ
  pub rest : List (List ℕ)

-- a line that is wanted, where more pieces follow it, so that it is ended
abbrev pub on_line : {X : Type 0} → (List (List ℕ)) → ℕ → Result X CircuitFault → Result X CircuitFault
on_line [] n reading = Err (BadLine n)
on_line (_ ∷ _) n reading = reading

abbrev pub body_from : Draft → ℕ → List (List ℕ) → Result Body CircuitFault
body_from d n [] = Err (BadLine n)
body_from d n (line ∷ rest) =
    if is_whole d then Ok (record { draft = d; line = n; rest = line ∷ rest })
    else on_line rest n (and_then (λ more. body_from more (n + 1) rest) (with_line d n line))

-- == the names ==

-- the names of inputs and outputs so far, with the lines of all names, 0 where there is none
pub record Names : Type 0 where
  pub inputs : List (Option (List ℕ))
  pub outputs : List (Option (List ℕ))
  pub input_lines : List ℕ
  pub latch_lines : List ℕ
  pub output_lines : List ℕ

abbrev pub no_names : Draft → Names
no_names d = record {
  inputs = replicate (length d.inputs) None;
  outputs = replicate (length d.outputs) None;
  input_lines = replicate (length d.inputs) 0;
  latch_lines = replicate (length d.latches) 0;
  output_lines = replicate (length d.outputs) 0;
}

-- the lines of the names of one sort
abbrev pub lines_for : Names → Named → List ℕ
lines_for names AnInput = names.input_lines
lines_for names ALatch = names.latch_lines
lines_for names AnOutput = names.output_lines

abbrev pub named_by : ℕ → Option Named
named_by letter = if letter == 105 then Some AnInput else (if letter == 108 then Some ALatch else (if letter == 111 then Some AnOutput else None))

abbrev pub is_nil : {X : Type 0} → List X → Bool
is_nil [] = true
is_nil (_ ∷ _) = false

-- the symbol that a line states, where its place is one of so many
abbrev pub symbol_of : Names → Named → List ℕ → Option Symbol
symbol_of names named text =
    option_and_then (λ words. option_and_then (λ place.
    if nat_lt place (length (lines_for names named)) && not (is_nil words.1)
    then Some (record { named = named; place = place; name = words.1 }) else None)
    (number_within (length (lines_for names named)) words.0)) (cut_at 32 text)

abbrev pub symbol_in : Names → List ℕ → Option Symbol
symbol_in names [] = None
symbol_in names (letter ∷ text) = option_and_then (λ named. symbol_of names named text) (named_by letter)

-- the names with the symbol of line n
abbrev pub named_at : Names → ℕ → Named → ℕ → List ℕ → Names
named_at names n AnInput place name = record names { inputs = slice_set names.inputs place (Some name); input_lines = slice_set names.input_lines place n }
named_at names n ALatch place name = record names { latch_lines = slice_set names.latch_lines place n }
named_at names n AnOutput place name = record names { outputs = slice_set names.outputs place (Some name); output_lines = slice_set names.output_lines place n }

-- each place is named at most once
abbrev pub with_symbol : Names → ℕ → Option Symbol → Result Names CircuitFault
with_symbol names n None = Err (BadLine n)
with_symbol names n (Some symbol) =
    if slice_index (lines_for names symbol.named) symbol.place == 0
    then Ok (named_at names n symbol.named symbol.place symbol.name) else Err (BadLine n)

-- the names, the line behind them, and the comment where there is one
pub record Ending : Type 0 where
  pub names : Names
  pub line : ℕ
  pub comment : Option (List ℕ)

-- the last piece is empty, or it is a line that isn't ended
abbrev pub ending_from : Names → ℕ → List (List ℕ) → Result Ending CircuitFault
ending_from names n [] = Err (BadLine n)
ending_from names n (line ∷ []) = if is_nil line then Ok (record { names = names; line = n; comment = None }) else Err (BadLine n)
ending_from names n (line ∷ next ∷ rest) =
    if bytes_eq line (codes "c") then Ok (record { names = names; line = n; comment = Some (join_with_byte 10 (next ∷ rest)) })
    else and_then (λ more. ending_from more (n + 1) (next ∷ rest)) (with_symbol names n (symbol_in names line))

-- == the whole file ==

-- what all lines state
pub record Parts : Type 0 where
  pub draft : Draft
  pub ending : Ending

abbrev pub no_lines : Counts → Draft
no_lines counts = record { counts = counts; inputs = []; latches = []; outputs = []; gates = [] }

abbrev pub parts_behind : Counts → List (List ℕ) → Result Parts CircuitFault
parts_behind counts rest =
    and_then (λ body. and_then (λ ending. Ok (record { draft = body.draft; ending = ending }))
    (ending_from (no_names body.draft) body.line body.rest)) (body_from (no_lines counts) 2 rest)

abbrev pub parts_of_lines : ℕ → List (List ℕ) → Result Parts CircuitFault
parts_of_lines room [] = Err (BadHeader 1)
parts_of_lines room (first ∷ rest) =
    and_then (λ counts. on_line rest 1 (parts_behind counts rest)) (counts_in room (header_of first))

-- what the lines of a file state, or the first fault of a line
abbrev pub circuit_parts : List ℕ → Result Parts CircuitFault
circuit_parts bytes = parts_of_lines (length bytes + 1) (lines_of bytes)

-- a constant, or a literal of a variable that a line defines
abbrev pub is_known : Draft → ℕ → Bool
is_known d literal = (literal / 2 == 0) || defines d (literal / 2)

-- the line of the first one that is found, counted from the line `first`, or another line
abbrev pub found_from : ℕ → Option ℕ → Option ℕ → Option ℕ
found_from first (Some place) other = Some (first + place)
found_from first None other = other

-- the first line that uses a variable which no line defines
abbrev pub undefined_line : Draft → Option ℕ
undefined_line d =
    found_from (2 + length d.inputs) (position_from (λ latch. not (is_known d latch.next)) 0 d.latches)
    (found_from (2 + length d.inputs + length d.latches) (position_from (λ literal. not (is_known d literal)) 0 d.outputs)
    (found_from (2 + length d.inputs + length d.latches + length d.outputs)
    (position_from (λ gate. not (is_known d gate.left && is_known d gate.right)) 0 d.gates) None))

-- the line of gate number k
abbrev pub gate_line_number : Draft → ℕ → ℕ
gate_line_number d k = 2 + length d.inputs + length d.latches + length d.outputs + k

-- what the reader gives of a file: the circuit, the place of the first byte of the comment, the line of the comment
-- or the one behind the last, and the lines of the names of inputs and then of outputs, 0 where there is none
pub record File : Type 0 where
  pub circuit : Circuit
  pub comment_at : Option ℕ
  pub comment_line : ℕ
  pub name_lines : List ℕ

abbrev pub circuit_of : Parts → Circuit
circuit_of p = record {
  variables = p.draft.counts.variables;
  inputs = p.draft.inputs;
  latches = p.draft.latches;
  outputs = p.draft.outputs;
  gates = p.draft.gates;
  input_names = p.ending.names.inputs;
  output_names = p.ending.names.outputs;
}

abbrev pub file_of : ℕ → Parts → File
file_of size p = record {
  circuit = circuit_of p;
  comment_at = option_map (λ comment. size - length comment) p.ending.comment;
  comment_line = p.ending.line;
  name_lines = p.ending.names.input_lines ++ p.ending.names.output_lines;
}

-- the file is without fault, and states this
pub record States (bytes : List ℕ) (file : File) : Type 0 where
  pub parts : Parts
  pub lines : circuit_parts bytes ≡ Ok parts
  pub uses : undefined_line parts.draft ≡ None
  pub no_cycle : (k : ℕ) → k < length parts.draft.gates → IsOnCycle parts.draft.gates k → ⊥
  pub file_is : file ≡ file_of (length bytes) parts

-- The first fault of a file: those of the header and of the lines in order, then the first use of what no line
-- defines, and then the first gate that depends on itself.
pub data IsFirstFault (bytes : List ℕ) : CircuitFault → Type 0 where
  of_line : {fault : CircuitFault} → circuit_parts bytes ≡ Err fault → IsFirstFault bytes fault
  of_use : {n : ℕ} (parts : Parts) → circuit_parts bytes ≡ Ok parts → undefined_line parts.draft ≡ Some n → IsFirstFault bytes (Undefined n)
  of_cycle : (parts : Parts) (k : ℕ) → circuit_parts bytes ≡ Ok parts → undefined_line parts.draft ≡ None → IsFirstCycle parts.draft.gates k
      → IsFirstFault bytes (Cycle (gate_line_number parts.draft k))
