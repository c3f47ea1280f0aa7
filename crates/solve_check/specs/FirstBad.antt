-- The first line at which a document of version 6 fails for a text (this project's own). First come the tests that each look at some
-- lines: the circuit's counts and names, the lines as text, the number of states, how the text is taken, the lines of the annotation,
-- and the logs. Each fails at one line at most, and the least of these lines is the first bad one. Only where none fails is the
-- annotation tested for what it claims, in the order of annot_check.
use Rattle.std.specs.Prelude.{◌≡◌, ℕ, ◌+◌, ◌-◌, ◌*◌, ◌^◌, Bool, true, false, ◌&&◌, Option, Some, None, Result, Ok, Err, List, length, drop, nat_le, is_some, MatchOption, option_map, option_and_then, if◌then◌else◌}
use Rattle.std.specs.Option.{option_map_or}
use Rattle.letters_and_lassos.specs.declared.kinds.Side.{Side}
use Rattle.letters_and_lassos.specs.declared.kinds.Side.TheVariants.{System, Environment}
use Rattle.aiger_text.specs.Circuit.{Circuit, HasStates}
use Rattle.aiger_text.specs.CircuitFile.{File}
use Rattle.annot_check.specs.declared.faults.AnnotFault.{AnnotFault}
use Rattle.annot_check.specs.declared.faults.AnnotFault.TheVariants.{NoMemory, BadLine, NoStart, NotMoore, Broken}
use Rattle.document_text.specs.declared.reading.CircuitPart.{CircuitPart}
use Rattle.document_text.specs.declared.reading.CircuitPart.TheVariants.{Absent, Faulty, Stated}
use Rattle.document_text.specs.Reading.{circuit_in}
use Rattle.circuit_names.specs.Lines.{earliest, faulty_line, stated_line}
use Rattle.named_annotation.specs.Laws.{IsNamedCause}
use Rattle.named_annotation.specs.NamedStates.{Named}
use Rattle.named_annotation.specs.NamedText.{most_steps, named_reading}
use Rattle.solve_ground.specs.declared.texts.SolveText.{SolveText}
use Rattle.solved_text.specs.declared.annotation.AnnotationPlace.{AnnotationPlace}
use Rattle.solved_text.specs.declared.documents.Verdict.{Verdict}
use Rattle.solved_text.specs.declared.documents.Verdict.TheVariants.{Realizable, Unrealizable, Unknown}
use Rattle.solved_text.specs.declared.header.Header.{Header}
use Rattle.solved_text.specs.Header.{is_number_of_states}
use Rattle.solved_text.specs.Reading.{Reads, SolvedLines}
use Rattle.solve_check.specs.Given.{form_for, is_taken_so, kind_for, names_in}
use Rattle.solve_check.specs.SizeLogs.{LogsFail, ground_for}

-- == the circuit ==

-- the side whose circuit a document of this verdict has
abbrev pub circuit_side : Verdict → Side
circuit_side (Realizable n) = System
circuit_side (Unrealizable n) = Environment
circuit_side Unknown = System

-- the same where a verdict is reached, else the system
abbrev pub side_in : Header → Side
side_in header = option_map_or circuit_side header.verdict System

-- the line at which the circuit counts or names its signals otherwise than the text; of one that has a fault, whose verdict isn't
-- reached, the names are those of a system's
abbrev pub circuit_line : SolveText → List ℕ → Header → CircuitPart → Option ℕ
circuit_line t bytes header Absent = None
circuit_line t bytes header Faulty = faulty_line (names_in t) bytes
circuit_line t bytes header (Stated file) = stated_line (names_in t) (side_in header) file

-- == the number of states ==

-- a circuit with so many inputs may be said to reach so many states: that many times the number of letters that it reads is no more
-- than are tried
abbrev pub may_be_counted : ℕ → ℕ → Bool
may_be_counted states inputs = is_number_of_states states && nat_le (states * 2 ^ inputs) most_steps

-- The line of a verdict that says a circuit reaches n states fails where so many aren't counted, and where it reaches another number.
pub data NumberFails (c : Circuit) (n line : ℕ) : Option ℕ → Type 0 where
  too_many : may_be_counted n (length c.inputs) ≡ false → NumberFails c n line (Some line)
  another : may_be_counted n (length c.inputs) ≡ true → (HasStates c n → ⊥) → NumberFails c n line (Some line)
  right : may_be_counted n (length c.inputs) ≡ true → HasStates c n → NumberFails c n line None

-- the number of states that a verdict tells
abbrev pub states_told : Verdict → Option ℕ
states_told (Realizable n) = Some n
states_told (Unrealizable n) = Some n
states_told Unknown = None

-- a circuit, and how many states it is said to reach
pub record Counted : Type 0 where
  pub circuit : Circuit
  pub states : ℕ

-- where both can be read
abbrev pub counted_in : SolvedLines → Option Counted
counted_in lines =
    option_and_then (λ states. option_map (λ circuit. record { circuit = circuit; states = states }) (circuit_in lines.circuit))
    (option_and_then states_told lines.header.verdict)

abbrev pub NumberFailsIn : SolvedLines → Option ℕ → Type 0
NumberFailsIn lines first = MatchOption (counted_in lines) (first ≡ None) (λ c. NumberFails c.circuit c.states lines.verdict_line first)

-- == how the text is taken ==

-- Where the text is taken otherwise than the document says, the line that says so fails: that of the semantics, which stands behind
-- that of the kind, or the latter where the document says nothing of a conversion.
abbrev pub taken_line : SolveText → SolvedLines → Option ℕ
taken_line t lines =
    option_and_then (λ kind. if is_taken_so t kind lines.header.converted then None
    else Some (lines.verdict_line + 1 + (if lines.header.converted then 1 else 0))) lines.header.kind

-- == the annotation ==

-- a circuit's file, the side that the circuit plays, and where its annotation stands
pub record Annotated : Type 0 where
  pub file : File
  pub side : Side
  pub place : AnnotationPlace

abbrev pub file_in : CircuitPart → Option File
file_in Absent = None
file_in Faulty = None
file_in (Stated file) = Some file

abbrev pub annotated_in : SolvedLines → Option Annotated
annotated_in lines =
    option_and_then (λ file. option_map (λ place. record { file = file; side = side_in lines.header; place = place }) lines.annotation)
    (file_in lines.circuit)

-- what the annotation's lines name and list, over what the circuit's side keeps from being true, or the first that is refused, from 1
abbrev pub reading_in : SolveText → List ℕ → Annotated → Result Named ℕ
reading_in t bytes a =
    named_reading (length a.file.circuit.latches) (length a.file.circuit.inputs) t.formulas (form_for t a.side) (drop a.place.at bytes)

-- such a line among those of the document
abbrev pub refused_line : Annotated → Result Named ℕ → Option ℕ
refused_line a (Ok named) = None
refused_line a (Err n) = Some (a.place.line + n - 1)

-- The first line of the annotation that is refused. It isn't looked at where the circuit's counts or names fail, whose lines stand
-- before it.
abbrev pub annotation_line : SolveText → List ℕ → SolvedLines → Option ℕ
annotation_line t bytes lines =
    if is_some (circuit_line t bytes lines.header lines.circuit) then None
    else option_and_then (λ a. refused_line a (reading_in t bytes a)) (annotated_in lines)

-- == the lines ==

-- the least line at which a test of the lines fails that were read of the bytes
pub record LinesFail (t : SolveText) (bytes : List ℕ) (lines : SolvedLines) (first : Option ℕ) : Type 0 where
  pub number : Option ℕ
  pub number_fails : NumberFailsIn lines number
  pub logs : Option ℕ
  pub logs_fail : LogsFail (ground_for t (side_in lines.header)) lines.logs logs
  pub first_is : first ≡ earliest (circuit_line t bytes lines.header lines.circuit)
      (earliest lines.bad (earliest number (earliest (taken_line t lines) (earliest (annotation_line t bytes lines) logs))))

-- == what the annotation claims ==

-- the line of an output of a circuit, from 0
abbrev pub output_line : Circuit → ℕ → ℕ
output_line c o = 2 + length c.inputs + length c.latches + o

-- The line at which an annotation fails by a cause: that of its head where the start is missing, an output's, or a pair's, which stand
-- behind the states.
abbrev pub cause_line : Annotated → Named → AnnotFault → ℕ
cause_line a named NoMemory = 0
cause_line a named (BadLine n) = a.place.line + n - 1
cause_line a named NoStart = a.place.line
cause_line a named (NotMoore o) = output_line a.file.circuit o
cause_line a named (Broken j) = a.place.line + 1 + length named.states + j

-- the lines have a circuit with an annotation, which names and lists this for the text
pub record HasAnnotation (t : SolveText) (bytes : List ℕ) (lines : SolvedLines) (a : Annotated) (named : Named) : Type 0 where
  pub annotated : annotated_in lines ≡ Some a
  pub stated : reading_in t bytes a ≡ Ok named

-- why the annotation isn't valid for its circuit and the text
abbrev pub IsCauseFor : SolveText → Annotated → Named → AnnotFault → Type 0
IsCauseFor t a named fault = IsNamedCause a.side a.file.circuit (kind_for t a.side) named fault

-- Line n is the first bad line of the bytes for this text.
pub data IsFirstBadSolved (t : SolveText) (bytes : List ℕ) : ℕ → Type 0 where
  of_line : (lines : SolvedLines) (n : ℕ) → Reads bytes lines → LinesFail t bytes lines (Some n) → IsFirstBadSolved t bytes n
  of_pairs : (lines : SolvedLines) (a : Annotated) (named : Named) (fault : AnnotFault) → Reads bytes lines → LinesFail t bytes lines None
      → HasAnnotation t bytes lines a named → (fault ≡ NoMemory → ⊥) → IsCauseFor t a named fault
      → IsFirstBadSolved t bytes (cause_line a named fault)
