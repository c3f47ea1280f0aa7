-- What a document's bytes state (this project's own).
use Rattle.std.specs.Prelude.{◌≡◌, ◌==◌, ℕ, ◌+◌, ⊤, Option, Some, None, List, [], ◌∷◌, length, drop, if◌then◌else◌}
use Rattle.aiger_text.specs.Circuit.{Circuit}
use Rattle.aiger_text.specs.CircuitFile.{File}
use Rattle.aiger_text.specs.CircuitFile as circuit
use Rattle.aiger_text.specs.RoundTrip.{written_file}
use Rattle.document_text.specs.Parts.{LogPart, Document}
use Rattle.document_text.specs.Lines.{body_text}
use Rattle.document_text.specs.WellFormed.{IsWellFormed}

-- The bytes begin with a circuit's file, whose comment is the document's other lines.
pub record StandsBehind (bytes : List ℕ) (c : Circuit) (d : Document) : Type 0 where
  pub file : File
  pub states : circuit.States bytes file
  pub circuit_is : file.circuit ≡ c
  pub at : ℕ
  pub comment_at : file.comment_at ≡ Some at
  pub body : drop at bytes ≡ body_text d
  pub name_lines : d.name_lines ≡ file.name_lines
  pub comment_line : d.comment_line ≡ file.comment_line

-- The bytes are the document's lines, behind those of its circuit where there is one.
abbrev pub HasText : List ℕ → Option Circuit → Document → Type 0
HasText bytes None d = (bytes ≡ body_text d) × (d.name_lines ≡ []) × (d.comment_line ≡ 0)
HasText bytes (Some c) d = StandsBehind bytes c d

-- the heads of the logs stand in the lines from n on, each behind the entries of the log before it
abbrev pub AreAt : ℕ → List LogPart → Type 0
AreAt n [] = ⊤
AreAt n (l ∷ logs) = (l.line ≡ n) × AreAt (n + 1 + length l.entries) logs

-- the first line behind a document's header
abbrev pub logs_line : Document → ℕ
logs_line d = d.comment_line + 1 + (if d.found == 0 then 5 else 6)

-- The bytes state this document: they are its text, it is well formed, and its lines stand where it says.
pub record States (bytes : List ℕ) (d : Document) : Type 0 where
  pub well_formed : IsWellFormed d
  pub text : HasText bytes d.circuit d
  pub verdict_line : d.verdict_line ≡ d.comment_line + 2
  pub logs : AreAt (logs_line d) d.logs

-- == the lines of a document that is written ==

abbrev pub logs_at : ℕ → List LogPart → List LogPart
logs_at n [] = []
logs_at n (l ∷ logs) = record l { line = n } ∷ logs_at (n + 1 + length l.entries) logs

abbrev pub written_name_lines : Option Circuit → List ℕ
written_name_lines None = []
written_name_lines (Some c) = (written_file c).name_lines

abbrev pub written_comment_line : Option Circuit → ℕ
written_comment_line None = 0
written_comment_line (Some c) = (written_file c).comment_line

-- the document with the numbers of the lines as it is written
abbrev pub numbered : Document → Document
numbered d = record d {
  logs = logs_at (written_comment_line d.circuit + 1 + (if d.found == 0 then 5 else 6)) d.logs;
  name_lines = written_name_lines d.circuit;
  comment_line = written_comment_line d.circuit;
  verdict_line = written_comment_line d.circuit + 2;
}
