-- How the answers of `verify` are made (this project's own).
use Rattle.std.specs.Prelude.{◌≡◌, ◌≢◌, ◌<◌, ⊤, ℕ, Bool, List, Option, Some, None, length}
use Rattle.letters_and_lassos.specs.declared.kinds.Kind.{Kind}
use Rattle.letters_and_lassos.specs.declared.kinds.Side.{Side}
use Rattle.letters_and_lassos.specs.declared.kinds.Side.TheVariants.{System, Environment}
use Rattle.letters_and_lassos.specs.Word.{Word}
use Rattle.machine_model.specs.Problem.{IsProblem}
use Rattle.tlsf_expand.specs.FlatText.{spec_seen}
use Rattle.spec_problems.specs.declared.texts.TextProblems.{TextProblems}
use Rattle.aiger_text.specs.Circuit.{RunsOnEveryInput}
use Rattle.aiger_text.specs.CircuitFile.{File}
use Rattle.aiger_text.specs.CircuitType.{IsCircuit}
use Rattle.document_check.specs.Facts.{Facts}
use Rattle.annot_check.specs.declared.faults.AnnotFault.{AnnotFault}
use Rattle.annot_check.specs.declared.faults.AnnotFault.TheVariants.{NoMemory, BadLine, NoStart, NotMoore, Broken}
use Rattle.annot_check.specs.Causes.{IsCause}
use Rattle.annot_check.specs.Laws.{AcceptsFalse, SatisfiesAs}
use Rattle.annot_check.specs.Pairs.{Listed}
use Rattle.program_replies.specs.Statuses.{status_number}
use Rattle.text_ground.specs.declared.texts.Problems.{Problems}
use Rattle.text_ground.specs.declared.texts.Problems.TheVariants.{Of, Refused}
use Rattle.text_ground.specs.Ground.{given_by}
use Rattle.text_ground.specs.Texts.{IsTextWith}
use Rattle.verify_answer.specs.FirstBad.{Annotates, IsFirstBadOfCircuit, IsValidFor, cause_line, over}
use Rattle.spec_faults.specs.declared.code.SpecCode.{SpecCode}
use Rattle.spec_faults.specs.declared.code.SpecFault.{SpecFault}
use Rattle.spec_faults.specs.declared.code.SpecFault.TheVariants as failed
use Rattle.spec_problems.specs.OfText.{IsFirstFault}
use Rattle.program_replies.specs.declared.replies.Reply.{Reply as AReply}
use Rattle.program_replies.specs.Refusals.{RefusedBy}
use Rattle.solve_ground.specs.declared.texts.SolveText.{SolveText}
use Rattle.solve_ground.specs.SolveText.{IsSolveFault, IsSolveText}
use Rattle.circuit_check.specs.Duty.{IsReady}
use Rattle.verify_answer.specs.declared.texts.TextForVerify.{TextForVerify}
use Rattle.verify_answer.specs.declared.texts.TextForVerify.TheVariants as told
use Rattle.verify_answer.specs.Answer.{CircuitAnswers, owed_to}
use Rattle.machine_model.specs.declared.counting.Counts.TheVariants.{Whole}

-- what a text gives to the test of circuits is within the limits, and its problem is over its inputs and outputs
pub record AreReady (facts : Facts) : Type 0 where
  pub problem : IsProblem facts.system
  pub inputs : facts.system.inputs ≡ length facts.inputs
  pub outputs : facts.system.outputs ≡ length facts.outputs

-- a text that was read and expanded, with the kind that is given or that it names, and its problems
pub record IsForVerify (text : List ℕ) (given : Option Kind) (t : TextProblems) : Type 0 where
  pub text_with : IsTextWith Whole text given (spec_seen t.spec) t.problems
  pub ready : AreReady (given_by (spec_seen t.spec) t.problems)

-- a text's problems, or the reply to its first fault
abbrev pub AreForVerify : List ℕ → Option Kind → Problems → Type 0
AreForVerify text given (Of t) = IsForVerify text given t
AreForVerify text given (Refused r) = RefusedBy (IsFirstFault text given) r.bytes.items (status_number r.status)

-- == the text as `solve` takes it ==

-- circuits of either side can be tested against it
pub record IsReadyFor (t : SolveText) : Type 0 where
  pub system : IsReady (owed_to t System)
  pub environment : IsReady (owed_to t Environment)

-- the text is taken so, has no fault so, and circuits can be tested against it
pub record IsTestable (text : List ℕ) (given : Option Kind) (t : SolveText) : Type 0 where
  pub is_text : IsSolveText text given t
  pub ready : IsReadyFor t
  pub no_fault : (code : SpecCode) (place : ℕ) → IsSolveFault text given code place → ⊥

-- want of memory, or a fault of the text as `solve` takes it
abbrev pub IsSolveRefusal : List ℕ → Option Kind → SpecFault → Type 0
IsSolveRefusal text given failed.NoMemory = ⊤
IsSolveRefusal text given (failed.At code place) = IsSolveFault text given code place

-- the reply to the first fault of a text that has one as `solve` takes it too
pub record IsRefusedAnyway (text : List ℕ) (given : Option Kind) (r : AReply) : Type 0 where
  pub fault : RefusedBy (IsFirstFault text given) r.bytes.items (status_number r.status)
  pub code : SpecCode
  pub place : ℕ
  pub larger : IsSolveFault text given code place

-- a reply that answers the text with whatever circuit that plays this side
abbrev pub IsRefusedFor : Side → List ℕ → Option Kind → AReply → Type 0
IsRefusedFor side text given r = (circuit : List ℕ) → CircuitAnswers side text given circuit r.bytes.items (status_number r.status)

-- a text that is known, or such a reply
abbrev pub IsTextFor : Side → List ℕ → Option Kind → TextForVerify → Type 0
IsTextFor side text given (told.Taken t) = IsTestable text given t
IsTextFor side text given (told.Refused r) = IsRefusedFor side text given r

-- == a list of pairs ==

-- The list is valid, and so the circuit satisfies, as its kind, whatever is false on lassos alone that the system's automaton accepts.
pub record IsShownBy (facts : Facts) (file : File) (list : Listed) : Type 0 where
  pub circuit : IsCircuit file.circuit
  pub valid : IsValidFor facts file list
  pub satisfies : (means : Word → Bool) → AcceptsFalse means (over facts) → SatisfiesAs System facts.system.kind means file.circuit
  pub runs : RunsOnEveryInput System file.circuit

-- the list isn't valid, by a cause with this line
pub record FailsAt (facts : Facts) (file : File) (list : Listed) (n : ℕ) : Type 0 where
  pub fault : AnnotFault
  pub some : fault ≢ NoMemory
  pub cause : IsCause System file.circuit facts.system.kind (over facts) list.pairs fault
  pub line : n ≡ cause_line file list fault

-- what is found out of a list: the line at which it fails, or that it is valid
abbrev pub IsToldOf : Facts → File → Listed → Option ℕ → Type 0
IsToldOf facts file list None = IsShownBy facts file list
IsToldOf facts file list (Some n) = FailsAt facts file list n

-- an output or a pair that a cause names is there
abbrev pub IsFaultWithinList : File → Listed → AnnotFault → Type 0
IsFaultWithinList file list NoMemory = ⊤
IsFaultWithinList file list (BadLine n) = ⊤
IsFaultWithinList file list NoStart = ⊤
IsFaultWithinList file list (NotMoore o) = o < length file.circuit.outputs
IsFaultWithinList file list (Broken j) = j < length list.pairs

-- a file whose annotation is valid
pub record IsShown (facts : Facts) (bytes : List ℕ) : Type 0 where
  pub file : File
  pub list : Listed
  pub annotates : Annotates facts bytes file list
  pub shown : IsShownBy facts file list

-- what is found out of a file: its first bad line, or that its annotation is valid
abbrev pub IsFoundOf : Facts → List ℕ → Option ℕ → Type 0
IsFoundOf facts bytes None = IsShown facts bytes
IsFoundOf facts bytes (Some n) = IsFirstBadOfCircuit facts bytes n
