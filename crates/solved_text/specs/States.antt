-- What the bytes of a document of version 6 state (this project's own).
use Rattle.std.specs.Prelude.{◌≡◌, ℕ, ◌+◌, ◌<◌, ◌≤◌, ◌^◌, ⊤, Bool, true, Option, Some, None, List, [], ◌∷◌, length, drop, All, IsTrue, IfSome, is_some, if◌then◌else◌}
use Rattle.refutation_log.specs.Text.{IsWritable}
use Rattle.aiger_text.specs.Circuit.{Circuit}
use Rattle.aiger_text.specs.CircuitFile.{File}
use Rattle.aiger_text.specs.CircuitFile as circuit
use Rattle.document_text.specs.Reading.{all_named}
use Rattle.solved_text.specs.declared.documents.Verdict.{Verdict}
use Rattle.solved_text.specs.declared.documents.Verdict.TheVariants.{Realizable, Unrealizable, Unknown}
use Rattle.solved_text.specs.declared.letters.Letters.{Letters}
use Rattle.solved_text.specs.declared.letters.Letters.TheVariants.{All as AllLetters, Few}
use Rattle.solved_text.specs.Parts.{SizeLog, Document}
use Rattle.solved_text.specs.Lines.{body_text}
use Rattle.solved_text.specs.Header.{has_its_place, is_number_of_states}
use Rattle.solved_text.specs.Logs.{most_letter}
use Rattle.solved_text.specs.Annotation.{bad_behind_end, has_head, pieces_of}

-- == documents whose parts fit each other ==

-- numbers of letters from `least` on, each above the one before it
abbrev pub Rise : ℕ → List ℕ → Type 0
Rise least [] = ⊤
Rise least (letter ∷ letters) = (least ≤ letter) × (letter ≤ most_letter) × Rise (letter + 1) letters

-- all letters, or at least one
abbrev pub AreLetters : Letters → Type 0
AreLetters AllLetters = ⊤
AreLetters (Few letters) = (0 < length letters) × Rise 0 letters

-- a log whose numbers lines can hold, over whose variables its entries are such as lines may state
pub record IsSizeLog (l : SizeLog) : Type 0 where
  pub size : l.size < 2 ^ 32
  pub letters : AreLetters l.letters
  pub vars : l.vars < 2 ^ 32
  pub base : l.base < 2 ^ 64
  pub count : length l.entries < 2 ^ 64
  pub entries : All (IsWritable l.vars) l.entries

-- the logs are of the sizes behind `last`, one after the other, and their heads stand in the lines from n on, each behind the
-- entries of the log before it
abbrev pub AreInOrder : ℕ → ℕ → List SizeLog → Type 0
AreInOrder last n [] = ⊤
AreInOrder last n (l ∷ logs) = (l.size ≡ last + 1) × (l.line ≡ n) × AreInOrder (last + 1) (n + 1 + length l.entries) logs

-- with a machine of so many states fewer sizes are refuted, and an annotation ends the document
pub record IsShown (states : ℕ) (logs : List SizeLog) (annotation : List ℕ) : Type 0 where
  pub number : IsTrue (is_number_of_states states)
  pub fewer : length logs < states
  pub all : All IsSizeLog logs
  pub head : has_head annotation ≡ true
  pub nothing_behind : bad_behind_end 0 (pieces_of annotation) ≡ None

-- what goes with a verdict
abbrev pub IsShownBy : Verdict → List SizeLog → List ℕ → Type 0
IsShownBy (Realizable n) logs annotation = IsShown n logs annotation
IsShownBy (Unrealizable n) logs annotation = IsShown n logs annotation
IsShownBy Unknown logs annotation = (logs ≡ []) × (annotation ≡ [])

-- A circuit with all its names stands exactly for the verdicts that have one, with what shows them.
pub record IsWellFormed (d : Document) : Type 0 where
  pub circuit : IsTrue (has_its_place (is_some d.circuit) d.verdict)
  pub named : IfSome d.circuit (λ c. IsTrue (all_named c))
  pub shown : IsShownBy d.verdict d.logs d.annotation

-- == the bytes ==

-- the first line behind the lines of the header and `refuted`, where the first of them is this one
abbrev pub logs_line : ℕ → Bool → ℕ
logs_line first converted = first + 4 + (if converted then 1 else 0)

-- The bytes begin with a circuit's file, whose comment is the document's other lines.
pub record StandsBehind (bytes : List ℕ) (c : Circuit) (d : Document) : Type 0 where
  pub file : File
  pub states : circuit.States bytes file
  pub circuit_is : file.circuit ≡ c
  pub at : ℕ
  pub comment_at : file.comment_at ≡ Some at
  pub body : drop at bytes ≡ body_text d
  pub logs : AreInOrder 0 (logs_line (file.comment_line + 1) d.converted) d.logs

-- The bytes are the document's lines, behind those of its circuit where there is one.
abbrev pub HasText : List ℕ → Option Circuit → Document → Type 0
HasText bytes None d = bytes ≡ body_text d
HasText bytes (Some c) d = StandsBehind bytes c d

-- The bytes state this document: they are its text, and it is well formed.
pub record States (bytes : List ℕ) (d : Document) : Type 0 where
  pub well_formed : IsWellFormed d
  pub text : HasText bytes d.circuit d
