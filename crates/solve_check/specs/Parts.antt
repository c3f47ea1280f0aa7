-- What the parts of the code have of a document and of a text (this project's own).
use Rattle.std.specs.Prelude.{◌≡◌, ◌≢◌, ℕ, ◌+◌, ◌<◌, ◌≤◌, ◌^◌, ⊤, true, Option, Some, None, Ok, List, length, MatchOption}
use Rattle.text_limits.specs.declared.TheConstants.{LARGE_LIMITS}
use Rattle.letters_and_lassos.specs.declared.kinds.Kind.{Kind}
use Rattle.letters_and_lassos.specs.declared.kinds.Side.{Side}
use Rattle.aiger_text.specs.Circuit.{Circuit, RunsOnEveryInput}
use Rattle.aiger_text.specs.CircuitType.{IsCircuit}
use Rattle.annot_check.specs.declared.faults.AnnotFault.{AnnotFault}
use Rattle.annot_check.specs.declared.faults.AnnotFault.TheVariants.{NoMemory, BadLine, NoStart, NotMoore, Broken}
use Rattle.annot_check.specs.Laws.{ValidListsShowKind}
use Rattle.annot_check.specs.Causes.{CanBeChecked}
use Rattle.circuit_laws.specs.Laws.{LosingCircuitsDefeat, NoSmallCircuitDefeats, NoSmallCircuitSatisfies}
use Rattle.ltl_formula.specs.Nodes.{IsNodeIn}
use Rattle.named_annotation.specs.Laws.{IsValidNamed, ValidNamedListsShow}
use Rattle.named_annotation.specs.NamedStates.{Named}
use Rattle.size_refutations.specs.Laws.{HoldingLogsRefute, LogsAreDetermined}
use Rattle.solve_ground.specs.declared.texts.SolveText.{SolveText}
use Rattle.solve_ground.specs.SolveText.{IsSolveText}
use Rattle.solved_text.specs.Laws.{SolvedAreDetermined}
use Rattle.solved_text.specs.Reading.{SolvedLines}
use Rattle.solve_check.specs.declared.acceptance.Acceptance.{Acceptance}
use Rattle.solve_check.specs.declared.annotated.Annotated.{Annotated}
use Rattle.solve_check.specs.declared.annotated.Reading.{Reading}
use Rattle.solve_check.specs.declared.annotated.Reading.TheVariants.{Absent, Named as Stated, Refused}
use Rattle.solve_check.specs.declared.numbers.Counted.{Counted}
use Rattle.solve_check.specs.declared.line_tests.Tested.{Tested}
use Rattle.solve_check.specs.Given.{is_taken_so, kind_for}
use Rattle.solve_check.specs.FirstBad as bad
use Rattle.solve_check.specs.FirstBad.{HasAnnotation, IsCauseFor, LinesFail, annotated_in, cause_line, reading_in, refused_line}

-- == what borrows show ==

abbrev pub counted_seen : Counted → bad.Counted
counted_seen c = record { circuit = c.circuit.now; states = c.states }

abbrev pub annotated_seen : Annotated → bad.Annotated
annotated_seen a = record { file = a.file.now; side = a.side; place = a.place }

-- == the annotation ==

-- both forms of a text's whole stand in its list, and its signals are few: so an annotation over either can be read
pub record IsReadable (t : SolveText) : Type 0 where
  pub negated : IsNodeIn t.formulas t.negated
  pub normal : IsNodeIn t.formulas t.normal
  pub few_inputs : length t.inputs.items ≤ LARGE_LIMITS.signals
  pub few_outputs : length t.outputs.items ≤ LARGE_LIMITS.signals

-- an annotation's lines have numbers, those of its states and pairs among them, and its pairs can be checked for the circuit
pub record CanBeTested (a : bad.Annotated) (named : Named) : Type 0 where
  pub checked : CanBeChecked a.file.circuit (length a.file.circuit.inputs) named.list.pairs
  pub lines : a.place.line + 1 + length named.states + length named.list.pairs < 2 ^ 64

-- what was read of an annotation that stands: what it names and lists, or its first line that is refused
abbrev pub IsReadAs : SolveText → List ℕ → bad.Annotated → Reading → Type 0
IsReadAs t bytes a Absent = ⊥
IsReadAs t bytes a (Stated named) = (reading_in t bytes a ≡ Ok named) × CanBeTested a named
IsReadAs t bytes a (Refused n) = refused_line a (reading_in t bytes a) ≡ Some n

-- the same of the lines of a document, which have none where there is no circuit, or no head
abbrev pub IsReadingOf : SolveText → List ℕ → SolvedLines → Reading → Type 0
IsReadingOf t bytes lines reading = MatchOption (annotated_in lines) (reading ≡ Absent) (λ a. IsReadAs t bytes a reading)

-- the line that is refused
abbrev pub refused_in : Reading → Option ℕ
refused_in Absent = None
refused_in (Stated named) = None
refused_in (Refused n) = Some n

-- The tests of the lines, with what was read of the annotation where none fails.
pub record IsTested (t : SolveText) (bytes : List ℕ) (lines : SolvedLines) (tested : Tested) : Type 0 where
  pub fails : LinesFail t bytes lines tested.first
  pub reading : tested.first ≡ None → IsReadingOf t bytes lines tested.reading

-- an output or a pair that a cause names is there
abbrev pub IsFaultWithinDocument : bad.Annotated → Named → AnnotFault → Type 0
IsFaultWithinDocument a named NoMemory = ⊤
IsFaultWithinDocument a named (BadLine n) = ⊥
IsFaultWithinDocument a named NoStart = ⊤
IsFaultWithinDocument a named (NotMoore o) = o < length a.file.circuit.outputs
IsFaultWithinDocument a named (Broken j) = j < length named.list.pairs

-- the annotation isn't valid, by a cause with this line
pub record FailsAt (t : SolveText) (a : bad.Annotated) (named : Named) (n : ℕ) : Type 0 where
  pub fault : AnnotFault
  pub some : fault ≢ NoMemory
  pub cause : IsCauseFor t a named fault
  pub line : n ≡ cause_line a named fault

-- what is found out of an annotation: the line at which it fails, or that it is valid
abbrev pub IsToldOf : SolveText → bad.Annotated → Named → Option ℕ → Type 0
IsToldOf t a named None = IsValidNamed a.side a.file.circuit (kind_for t a.side) named
IsToldOf t a named (Some n) = FailsAt t a named n

-- the same of lines of which none fails: without a circuit nothing is claimed
pub record IsShown (t : SolveText) (bytes : List ℕ) (lines : SolvedLines) (a : bad.Annotated) (line : Option ℕ) : Type 0 where
  pub named : Named
  pub annotation : HasAnnotation t bytes lines a named
  pub told : IsToldOf t a named line

abbrev pub IsClaimed : SolveText → List ℕ → SolvedLines → Option ℕ → Type 0
IsClaimed t bytes lines line = MatchOption (annotated_in lines) (line ≡ None) (λ a. IsShown t bytes lines a line)

-- == the circuit ==

-- a circuit as its type keeps it: it has a run lasso on each lasso of input letters, and a valid list of pairs shows its kind
pub record IsSoundCircuit (c : Circuit) : Type 0 where
  pub is_circuit : IsCircuit c
  pub runs : (side : Side) → RunsOnEveryInput side c
  pub kind : ValidListsShowKind c

-- == what is told of good lines ==

pub record TellsOf (t : SolveText) (lines : SolvedLines) (a : Acceptance) : Type 0 where
  pub verdict : lines.header.verdict ≡ Some a.verdict
  pub kind : lines.header.kind ≡ Some a.kind
  pub semantics : a.semantics ≡ t.semantics
  pub refuted : a.refuted ≡ length lines.logs

-- == the text as it is asked for ==

-- the text is taken by its own kinds, converted for machines of this one
pub record IsConvertedFor (text : List ℕ) (kind : Kind) (t : SolveText) : Type 0 where
  pub is_text : IsSolveText text None t
  pub so : is_taken_so t kind true ≡ true

-- == laws ==

-- what is known of documents, logs, annotations and circuits
pub record AreLaws : Type 0 where
  pub documents : SolvedAreDetermined
  pub logs : LogsAreDetermined
  pub refute : HoldingLogsRefute
  pub annotations : ValidNamedListsShow
  pub defeat : LosingCircuitsDefeat
  pub no_controller : NoSmallCircuitSatisfies
  pub no_counter_strategy : NoSmallCircuitDefeats
