-- What the parts of the code find out of a file (this project's own).
use Rattle.std.specs.Prelude.{◌≡◌, ◌≢◌, ℕ, ◌+◌, ◌<◌, ◌^◌, ⊤, List, Option, Some, None, length}
use Rattle.aiger_text.specs.Circuit.{IsCircuitOfKind, RunsOnEveryInput}
use Rattle.aiger_text.specs.CircuitFile.{File}
use Rattle.aiger_text.specs.CircuitType.{IsCircuit}
use Rattle.annot_check.specs.declared.faults.AnnotFault.{AnnotFault}
use Rattle.annot_check.specs.declared.faults.AnnotFault.TheVariants.{NoMemory, BadLine, NoStart, NotMoore, Broken}
use Rattle.annot_check.specs.Causes.{CanBeChecked}
use Rattle.named_annotation.specs.Laws.{IsNeverTrue}
use Rattle.named_annotation.specs.NamedStates.{Named}
use Rattle.circuit_check.specs.Duty.{Owed}
use Rattle.circuit_check.specs.FirstBad.{Annotates, IsCauseFor, IsFirstBad, IsValidFor, cause_line}

-- an output or a pair that a cause names is there
abbrev pub IsFaultWithinFile : File → Named → AnnotFault → Type 0
IsFaultWithinFile file named NoMemory = ⊤
IsFaultWithinFile file named (BadLine n) = ⊥
IsFaultWithinFile file named NoStart = ⊤
IsFaultWithinFile file named (NotMoore o) = o < length file.circuit.outputs
IsFaultWithinFile file named (Broken j) = j < length named.list.pairs

-- the pairs can be checked for the circuit, and the lines have numbers
pub record CanBeTested (file : File) (named : Named) : Type 0 where
  pub checked : CanBeChecked file.circuit (length file.circuit.inputs) named.list.pairs
  pub lines : file.comment_line + named.list.head_line + 1 + length named.states + length named.list.pairs < 2 ^ 64

-- the annotation isn't valid, by a cause with this line
pub record FailsAt (owed : Owed) (file : File) (named : Named) (n : ℕ) : Type 0 where
  pub fault : AnnotFault
  pub some : fault ≢ NoMemory
  pub cause : IsCauseFor owed file named fault
  pub line : n ≡ cause_line file named fault

-- what is found out of an annotation: the line at which it fails, or that it is valid
abbrev pub IsToldOf : Owed → File → Named → Option ℕ → Type 0
IsToldOf owed file named None = IsValidFor owed file named
IsToldOf owed file named (Some n) = FailsAt owed file named n

-- what is known of the circuit of a file whose annotation is valid: it is of the kind, the formula is true on none of its run lassos, and it has
-- one on each lasso of the letters that it reads
pub record KeepsItsDuty (owed : Owed) (file : File) : Type 0 where
  pub circuit : IsCircuit file.circuit
  pub of_kind : IsCircuitOfKind owed.kind file.circuit
  pub never : IsNeverTrue owed.side file.circuit owed.nodes owed.form
  pub runs : RunsOnEveryInput owed.side file.circuit

-- a file whose annotation is valid
pub record IsShown (owed : Owed) (bytes : List ℕ) : Type 0 where
  pub file : File
  pub named : Named
  pub annotates : Annotates owed bytes file named
  pub valid : IsValidFor owed file named
  pub keeps : KeepsItsDuty owed file

-- what is found out of a file: its first bad line, or that its annotation is valid
abbrev pub IsFoundOf : Owed → List ℕ → Option ℕ → Type 0
IsFoundOf owed bytes None = IsShown owed bytes
IsFoundOf owed bytes (Some n) = IsFirstBad owed bytes n
