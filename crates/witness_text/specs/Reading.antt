-- What is read of a witness's lines, and the first that is bad (this project's own).
use Rattle.std.specs.Prelude.{◌≡◌, ◌==◌, ℕ, ◌+◌, ◌*◌, Bool, true, false, Option, Some, None, List, [], ◌∷◌, length, option_map, option_and_then, if◌then◌else◌}
use Rattle.document_text.specs.Header.{behind}
use Rattle.document_text.specs.Lines.{end_text}
use Rattle.document_text.specs.Logs.{bad_behind}
use Rattle.truth_witness.specs.declared.witnesses.Operands.{Operands}
use Rattle.truth_witness.specs.Witness.{Part, Witness}
use Rattle.truth_witness.specs.Logs.{ObligationLog}
use Rattle.witness_text.specs.declared.lines.Following.{Following}
use Rattle.witness_text.specs.declared.lines.Following.TheVariants.{Nothing, Anything}
use Rattle.witness_text.specs.declared.lines.WitnessCounts.{WitnessCounts}
use Rattle.witness_text.specs.Statement.{Statement, lines_of, statement_in}
use Rattle.witness_text.specs.Logs.{LogsRead, ReadsLogs}

-- What the lines of a witness state, the first of which has the number `first`, each as far as those before it are good; how many of
-- the logs have as many entries as their heads say; and the first bad line.
pub record WitnessLines : Type 0 where
  pub first : ℕ
  pub counts : Option WitnessCounts
  pub latches : List ℕ
  pub gates : List Operands
  pub always : Option ℕ
  pub parts : List Part
  pub logs : List ObligationLog
  pub whole_logs : ℕ
  pub bad : Option ℕ

-- how many obligations a witness of so many parts has
abbrev pub obligations : ℕ → ℕ
obligations parts = 3 + 3 * parts

-- == the line `end` ==

-- the line behind line n is bad where something stands there that may not
abbrev pub bad_following : Following → ℕ → List ℕ → Option ℕ
bad_following Nothing n rest = bad_behind n rest
bad_following Anything n rest = None

abbrev pub on_end : Following → ℕ → Option (List ℕ) → Option ℕ
on_end following n None = Some n
on_end following n (Some rest) = bad_following following n rest

-- the first bad line where line n has to be the line `end`
abbrev pub bad_at_end : Following → ℕ → List ℕ → Option ℕ
bad_at_end following n bytes = on_end following n (behind end_text bytes)

-- the first bad line behind proofs that were read up to line n
abbrev pub bad_behind_logs : Following → ℕ → Option (List ℕ) → Option ℕ
bad_behind_logs following n None = Some n
bad_behind_logs following n (Some bytes) = bad_at_end following n bytes

-- == the whole ==

abbrev pub lines_with : ℕ → Statement → LogsRead → Option ℕ → WitnessLines
lines_with first s read bad = record {
  first = first;
  counts = s.counts;
  latches = s.latches;
  gates = s.gates;
  always = s.always;
  parts = s.parts;
  logs = read.logs;
  whole_logs = read.whole;
  bad = bad;
}

-- no proof was read, and line n is bad
abbrev pub no_logs : ℕ → LogsRead
no_logs n = record { logs = []; whole = 0; line = n; rest = None }

-- What is read of these bytes, whose first line has the number `first`, where so may follow the line `end`.
pub data Reads (following : Following) (first : ℕ) (bytes : List ℕ) : WitnessLines → Type 0 where
  of_statement : (statement_in bytes).rest ≡ None
      → Reads following first bytes
      (lines_with first (statement_in bytes) (no_logs (first + lines_of (statement_in bytes))) (Some (first + lines_of (statement_in bytes))))
  of_logs : (text : List ℕ) (read : LogsRead) → (statement_in bytes).rest ≡ Some text
      → ReadsLogs (obligations (length (statement_in bytes).parts)) 0 (first + lines_of (statement_in bytes)) text read
      → Reads following first bytes (lines_with first (statement_in bytes) read (bad_behind_logs following read.line read.rest))

-- line n is the first bad one
pub record IsFirstBadLine (following : Following) (first : ℕ) (bytes : List ℕ) (n : ℕ) : Type 0 where
  pub lines : WitnessLines
  pub reads : Reads following first bytes lines
  pub bad : lines.bad ≡ Some n

-- == the witness of lines ==

-- a witness with the logs of its obligations
pub record WitnessProof : Type 0 where
  pub witness : Witness
  pub logs : List ObligationLog

-- all lines up to the last part were read, where this is the number of parts
abbrev pub has_parts : WitnessLines → WitnessCounts → Bool
has_parts lines counts = length lines.parts == counts.parts

abbrev pub with_always : WitnessLines → ℕ → WitnessProof
with_always lines always = record {
  witness = record { latches = lines.latches; gates = lines.gates; always = always; parts = lines.parts };
  logs = lines.logs;
}

-- the witness and the logs that were read, where all lines up to the last part were
abbrev pub witness_of : WitnessLines → Option WitnessProof
witness_of lines =
    option_and_then (λ counts. if has_parts lines counts then option_map (with_always lines) lines.always else None) lines.counts
