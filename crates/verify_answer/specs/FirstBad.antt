-- The first line at which a circuit's file with an annotation fails for a text (this project's own). The circuit is tested as that of
-- a document, but that names may be missing; then the annotation in its comment is, whose lines are counted on from the line `c`.
use Rattle.std.specs.Prelude.{◌≡◌, ℕ, ◌+◌, List, Option, Some, None, length, drop, option_map}
use Rattle.letters_and_lassos.specs.declared.kinds.Side.TheVariants.{System}
use Rattle.machine_model.specs.Automaton.{AutomatonModel, states_of}
use Rattle.machine_model.specs.Problem.{automaton_of}
use Rattle.aiger_text.specs.declared.faults.CircuitFault.{CircuitFault}
use Rattle.aiger_text.specs.Circuit.{Circuit}
use Rattle.aiger_text.specs.CircuitFile.{File, IsFirstFault, States}
use Rattle.document_text.specs.Reading.{fault_line}
use Rattle.document_check.specs.Facts.{Facts}
use Rattle.circuit_names.specs.Lines.{earliest}
use Rattle.document_check.specs.FirstBad.{faulty_line, stated_line}
use Rattle.annot_check.specs.declared.faults.AnnotFault.{AnnotFault}
use Rattle.annot_check.specs.declared.faults.AnnotFault.TheVariants.{NoMemory, BadLine, NoStart, NotMoore, Broken}
use Rattle.annot_check.specs.AnnotationText.{IsFirstBadAnnotationLine, StatesPairs}
use Rattle.annot_check.specs.Causes.{IsCause}
use Rattle.annot_check.specs.Pairs.{Listed}
use Rattle.annot_check.specs.Valid.{IsValidPairList}

-- the system's automaton, over which an annotation is
abbrev pub over : Facts → AutomatonModel
over facts = automaton_of facts.system

-- what stands behind the line `c`, where there is one
abbrev pub comment_of : File → List ℕ → Option (List ℕ)
comment_of file bytes = option_map (λ at. drop at bytes) file.comment_at

-- The file is without fault; its circuit has the text's numbers of inputs and of outputs, and each of its names is the text's.
pub record FitsText (facts : Facts) (bytes : List ℕ) (file : File) : Type 0 where
  pub states : States bytes file
  pub fits : stated_line facts System file ≡ None

-- such a file with this comment
pub record HasComment (facts : Facts) (bytes : List ℕ) (file : File) (comment : List ℕ) : Type 0 where
  pub of_text : FitsText facts bytes file
  pub comment_is : comment_of file bytes ≡ Some comment

-- such a file, whose comment states these pairs of latch values and states of the system's automaton
pub record Annotates (facts : Facts) (bytes : List ℕ) (file : File) (list : Listed) : Type 0 where
  pub comment : List ℕ
  pub commented : HasComment facts bytes file comment
  pub pairs : StatesPairs comment (length file.circuit.latches) (states_of (over facts)) list

-- the list is valid for the circuit, the text's kind and the system's automaton
abbrev pub IsValidFor : Facts → File → Listed → Type 0
IsValidFor facts file list = IsValidPairList System file.circuit facts.system.kind (over facts) list.pairs

-- the line of an output of a circuit, from 0
abbrev pub output_line : Circuit → ℕ → ℕ
output_line c o = 2 + length c.inputs + length c.latches + o

-- The line at which a list of pairs fails by a cause: that of the annotation's head where the start is missing, an output's, or a
-- pair's.
abbrev pub cause_line : File → Listed → AnnotFault → ℕ
cause_line file list NoMemory = 0
cause_line file list (BadLine n) = file.comment_line + n
cause_line file list NoStart = file.comment_line + list.head_line
cause_line file list (NotMoore o) = output_line file.circuit o
cause_line file list (Broken j) = file.comment_line + list.head_line + 1 + j

-- Line n is the first at which the file fails for the text. In this order: the circuit has a fault of its own, beside which its
-- numbers of inputs and outputs and its names are tested, or it hasn't the text's numbers, or a name is another one; the line `c` is
-- missing; a line of the comment isn't what is wanted there; the list of pairs isn't valid.
pub data IsFirstBadOfCircuit (facts : Facts) (bytes : List ℕ) : ℕ → Type 0 where
  of_fault : (fault : CircuitFault) (n : ℕ) → IsFirstFault bytes fault → earliest (Some (fault_line fault)) (faulty_line facts bytes) ≡ Some n
      → IsFirstBadOfCircuit facts bytes n
  of_names : (file : File) (n : ℕ) → States bytes file → stated_line facts System file ≡ Some n → IsFirstBadOfCircuit facts bytes n
  no_comment : (file : File) → FitsText facts bytes file → file.comment_at ≡ None → IsFirstBadOfCircuit facts bytes file.comment_line
  of_line : (file : File) (comment : List ℕ) (n : ℕ) → HasComment facts bytes file comment
      → IsFirstBadAnnotationLine comment (length file.circuit.latches) (states_of (over facts)) n → IsFirstBadOfCircuit facts bytes (file.comment_line + n)
  of_pairs : (file : File) (list : Listed) (fault : AnnotFault) → Annotates facts bytes file list → (fault ≡ NoMemory → ⊥)
      → IsCause System file.circuit facts.system.kind (over facts) list.pairs fault → IsFirstBadOfCircuit facts bytes (cause_line file list fault)
