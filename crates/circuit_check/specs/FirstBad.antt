-- The first line at which a circuit's file with an annotation over named states fails (this project's own). The circuit is tested as
-- that of a document, but that names may be missing; then the annotation in its comment is, whose lines are counted on from the line `c`.
use Rattle.std.specs.Prelude.{◌≡◌, ℕ, ◌+◌, List, Option, Some, None, length, drop, option_map}
use Rattle.letters_and_lassos.specs.declared.kinds.Side.TheVariants.{System}
use Rattle.aiger_text.specs.declared.faults.CircuitFault.{CircuitFault}
use Rattle.aiger_text.specs.Circuit.{Circuit}
use Rattle.aiger_text.specs.CircuitFile.{File, IsFirstFault, States}
use Rattle.document_text.specs.Reading.{fault_line}
use Rattle.circuit_names.specs.Lines.{earliest, faulty_line, stated_line}
use Rattle.annot_check.specs.declared.faults.AnnotFault.{AnnotFault}
use Rattle.annot_check.specs.declared.faults.AnnotFault.TheVariants.{NoMemory, BadLine, NoStart, NotMoore, Broken}
use Rattle.named_annotation.specs.Laws.{IsNamedCause, IsValidNamed}
use Rattle.named_annotation.specs.NamedStates.{Named}
use Rattle.named_annotation.specs.NamedText.{IsFirstBadNamedLine, StatesNamed}
use Rattle.circuit_check.specs.Duty.{Owed}

-- what stands behind the line `c`, where there is one
abbrev pub comment_of : File → List ℕ → Option (List ℕ)
comment_of file bytes = option_map (λ at. drop at bytes) file.comment_at

-- the line at which the circuit counts or names its signals otherwise; the names of a duty are those that the circuit itself reads and
-- writes, on either side
abbrev pub names_line : Owed → File → Option ℕ
names_line owed file = stated_line owed.names System file

-- The file is without fault; its circuit has the numbers of inputs and of outputs, and each of its names is the wanted one.
pub record Fits (owed : Owed) (bytes : List ℕ) (file : File) : Type 0 where
  pub states : States bytes file
  pub fits : names_line owed file ≡ None

-- such a file with this comment
pub record HasComment (owed : Owed) (bytes : List ℕ) (file : File) (comment : List ℕ) : Type 0 where
  pub fitting : Fits owed bytes file
  pub comment_is : comment_of file bytes ≡ Some comment

-- the comment names and lists this, over what the circuit keeps from being true
abbrev pub StatesFor : Owed → File → List ℕ → Named → Type 0
StatesFor owed file comment named =
    StatesNamed comment (length file.circuit.latches) (length file.circuit.inputs) owed.nodes owed.form named

-- this line of it, from 1, is the first that is refused
abbrev pub IsBadIn : Owed → File → List ℕ → ℕ → Type 0
IsBadIn owed file comment n =
    IsFirstBadNamedLine comment (length file.circuit.latches) (length file.circuit.inputs) owed.nodes owed.form n

-- such a file, whose comment names and lists this
pub record Annotates (owed : Owed) (bytes : List ℕ) (file : File) (named : Named) : Type 0 where
  pub comment : List ℕ
  pub commented : HasComment owed bytes file comment
  pub stated : StatesFor owed file comment named

-- the annotation is valid for the circuit, which plays the side and is of the kind, and else why it isn't
abbrev pub IsValidFor : Owed → File → Named → Type 0
IsValidFor owed file named = IsValidNamed owed.side file.circuit owed.kind named

abbrev pub IsCauseFor : Owed → File → Named → AnnotFault → Type 0
IsCauseFor owed file named fault = IsNamedCause owed.side file.circuit owed.kind named fault

-- the line of an output of a circuit, from 0
abbrev pub output_line : Circuit → ℕ → ℕ
output_line c o = 2 + length c.inputs + length c.latches + o

-- The line at which an annotation fails by a cause: that of its head where the start is missing, an output's, or a pair's, which stand
-- behind the states.
abbrev pub cause_line : File → Named → AnnotFault → ℕ
cause_line file named NoMemory = 0
cause_line file named (BadLine n) = file.comment_line + n
cause_line file named NoStart = file.comment_line + named.list.head_line
cause_line file named (NotMoore o) = output_line file.circuit o
cause_line file named (Broken j) = file.comment_line + named.list.head_line + 1 + length named.states + j

-- Line n is the first at which the file fails. In this order: the circuit has a fault of its own, beside which its numbers of inputs and
-- outputs and its names are tested, or it hasn't the wanted numbers, or a name is another one; the line `c` is missing; a line of the
-- comment isn't what is wanted there; the annotation isn't valid.
pub data IsFirstBad (owed : Owed) (bytes : List ℕ) : ℕ → Type 0 where
  of_fault : (fault : CircuitFault) (n : ℕ) → IsFirstFault bytes fault → earliest (Some (fault_line fault)) (faulty_line owed.names bytes) ≡ Some n
      → IsFirstBad owed bytes n
  of_names : (file : File) (n : ℕ) → States bytes file → names_line owed file ≡ Some n → IsFirstBad owed bytes n
  no_comment : (file : File) → Fits owed bytes file → file.comment_at ≡ None → IsFirstBad owed bytes file.comment_line
  of_line : (file : File) (comment : List ℕ) (n : ℕ) → HasComment owed bytes file comment → IsBadIn owed file comment n
      → IsFirstBad owed bytes (file.comment_line + n)
  of_pairs : (file : File) (named : Named) (fault : AnnotFault) → Annotates owed bytes file named → (fault ≡ NoMemory → ⊥)
      → IsCauseFor owed file named fault → IsFirstBad owed bytes (cause_line file named fault)
