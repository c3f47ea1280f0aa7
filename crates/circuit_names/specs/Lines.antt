-- The first line at which a circuit counts or names its inputs and outputs otherwise than a text (this project's own).
use Rattle.std.specs.Prelude.{◌≡◌, ◌==◌, ℕ, ◌+◌, Bool, false, not, ◌&&◌, Option, Some, None, List, [], ◌∷◌, length, codes, drop, min, nat_eq, nat_lt, option_map, option_and_then, slice_index, slice_index_or, if◌then◌else◌}
use Rattle.std.specs.List.{starts_with}
use Rattle.std.specs.Option.{option_map_or}
use Rattle.std.specs.Str.{bytes_eq}
use Rattle.letters_and_lassos.specs.declared.kinds.Side.{Side}
use Rattle.aiger_text.specs.CircuitFile.{File, lines_of}
use Rattle.aiger_text.specs.Words.{cut_at, number_within}
use Rattle.circuit_names.specs.Names.{Names, read_names, written_names}

-- the smaller one of two lines, where they are there
abbrev pub earliest : Option ℕ → Option ℕ → Option ℕ
earliest None other = other
earliest (Some n) None = Some n
earliest (Some n) (Some m) = Some (min n m)

-- the line of a name that isn't the wanted one
abbrev pub foreign_name : Option (List ℕ) → List ℕ → ℕ → Option ℕ
foreign_name None wanted line = None
foreign_name (Some name) wanted line = if bytes_eq name wanted then None else Some line

-- the first line of names that aren't the wanted ones; the first of their lines stands at this place
abbrev pub foreign_from : ℕ → List (Option (List ℕ)) → List (List ℕ) → List ℕ → Option ℕ
foreign_from place [] wanted lines = None
foreign_from place (name ∷ names) [] lines = None
foreign_from place (name ∷ names) (other ∷ wanted) lines =
    earliest (foreign_name name other (slice_index lines place)) (foreign_from (place + 1) names wanted lines)

abbrev pub same_length : {X Y : Type 0} → List X → List Y → Bool
same_length xs ys = length xs == length ys

-- Of a circuit without fault, line 1 where it has another number of inputs or outputs, of which each has a place for its name.
abbrev pub stated_line : Names → Side → File → Option ℕ
stated_line names side file =
    if same_length file.circuit.input_names (read_names names side) && same_length file.circuit.output_names (written_names names side)
    then earliest (foreign_from 0 file.circuit.input_names (read_names names side) file.name_lines)
    (foreign_from (length file.circuit.input_names) file.circuit.output_names (written_names names side) file.name_lines)
    else Some 1

-- whether a word writes this number
abbrev pub writes : ℕ → List ℕ → Bool
writes n word = option_map_or (λ m. m == n) (number_within n word) false

-- what stands behind the mark that a header begins with
abbrev pub behind_mark : List ℕ → Option (List ℕ)
behind_mark line = if starts_with nat_eq line (codes "aag ") then Some (drop (length (codes "aag ")) line) else None

-- the words of a header for the numbers of inputs and of outputs
abbrev pub count_words : List ℕ → Option (List ℕ × List ℕ)
count_words line =
    option_and_then (λ text. option_and_then (λ variables. option_and_then (λ inputs. option_and_then (λ latches.
    option_map (λ outputs. (inputs.0, outputs.0)) (cut_at 32 latches.1)) (cut_at 32 inputs.1)) (cut_at 32 variables.1)) (cut_at 32 text))
    (behind_mark line)

-- line 1 where it doesn't count the text's inputs and outputs
abbrev pub counts_line : Names → List ℕ → Option ℕ
counts_line names line =
    option_map_or (λ words. if writes (length names.inputs) words.0 && writes (length names.outputs) words.1 then None else Some 1) (count_words line) (Some 1)

-- whether the name is another than that of this number
abbrev pub is_other : List (List ℕ) → Option ℕ → List ℕ → Bool
is_other names None name = false
is_other names (Some place) name = nat_lt place (length names) && not (bytes_eq name (slice_index_or names place []))

abbrev pub names_other : List (List ℕ) → List ℕ → Bool
names_other names text = option_map_or (λ words. is_other names (number_within (length names) words.0) words.1) (cut_at 32 text) false

-- whether a line names an input or an output, and not as the text does
abbrev pub is_foreign : Names → List ℕ → Bool
is_foreign names [] = false
is_foreign names (letter ∷ text) =
    if letter == 105 then names_other names.inputs text else (if letter == 111 then names_other names.outputs text else false)

-- the first such line before the line `c`, the first piece being line n; the last piece is no line
abbrev pub foreign_line : Names → ℕ → List (List ℕ) → Option ℕ
foreign_line names n [] = None
foreign_line names n (line ∷ []) = None
foreign_line names n (line ∷ next ∷ rest) =
    if bytes_eq line (codes "c") then None else (if is_foreign names line then Some n else foreign_line names (n + 1) (next ∷ rest))

-- Of a circuit that has a fault, whose verdict isn't reached, the names are those of a system's.
abbrev pub faulty_line : Names → List ℕ → Option ℕ
faulty_line names bytes =
    option_map_or (λ cut. earliest (counts_line names cut.0) (foreign_line names 2 (lines_of cut.1))) (cut_at 10 bytes) None
