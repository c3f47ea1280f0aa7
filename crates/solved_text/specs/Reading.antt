-- What the bytes of a document of version 6 state line by line, and the first line that isn't what is wanted there, without the text
-- that the document is for (this project's own).
use Rattle.std.specs.Prelude.{◌≡◌, ℕ, ◌+◌, ◌-◌, Bool, true, false, Option, Some, None, List, [], length, drop, is_some, option_map, option_and_then}
use Rattle.std.specs.Option.{option_map_or}
use Rattle.aiger_text.specs.declared.faults.CircuitFault.{CircuitFault}
use Rattle.aiger_text.specs.CircuitFile.{File, IsFirstFault}
use Rattle.aiger_text.specs.CircuitFile as circuit
use Rattle.document_text.specs.declared.reading.CircuitPart.{CircuitPart}
use Rattle.document_text.specs.declared.reading.CircuitPart.TheVariants.{Absent, Faulty, Stated}
use Rattle.document_text.specs.Header.{behind}
use Rattle.document_text.specs.Reading.{all_named, begins_without_circuit, circuit_in, fault_line}
use Rattle.solved_text.specs.declared.annotation.AnnotationPlace.{AnnotationPlace}
use Rattle.solved_text.specs.declared.header.Header.{Header}
use Rattle.solved_text.specs.Parts.{SizeLog, Document}
use Rattle.solved_text.specs.Lines.{version_text}
use Rattle.solved_text.specs.Header.{no_header, header_of}
use Rattle.solved_text.specs.Logs.{LogsRead, ReadsLogs}
use Rattle.solved_text.specs.Annotation.{AnnotationText, annotation_at, bad_at_end, bad_of_annotation}

-- == which documents are of version 6 ==

abbrev pub begins_sixth : List ℕ → Bool
begins_sixth bytes = is_some (behind version_text bytes)

-- the first line, or the line behind the line `c` of a circuit that can be read, is `boundsyn 6`
pub data IsSixth (bytes : List ℕ) : Type 0 where
  alone : begins_sixth bytes ≡ true → IsSixth bytes
  commented : (file : File) (at : ℕ) → circuit.States bytes file → file.comment_at ≡ Some at → begins_sixth (drop at bytes) ≡ true → IsSixth bytes

-- == the lines behind a circuit, or without one ==

-- what is read of the lines behind the header
pub record RestRead : Type 0 where
  pub logs : List SizeLog
  pub annotation : Option AnnotationText
  pub bad : Option ℕ

-- what stands behind the logs that were read
abbrev pub annotation_of : ℕ → Option (List ℕ) → Option AnnotationText
annotation_of n None = None
annotation_of n (Some text) = annotation_at n text

abbrev pub bad_of : ℕ → Option (List ℕ) → Option ℕ
bad_of n None = Some n
bad_of n (Some text) = bad_of_annotation n text

-- behind logs that were read
abbrev pub rest_behind : LogsRead → RestRead
rest_behind read = record { logs = read.logs; annotation = annotation_of read.line read.rest; bad = bad_of read.line read.rest }

-- Where sizes may be refuted their logs and an annotation stand from line n on, else the line `end`.
pub data ReadsRest (n : ℕ) (bytes : List ℕ) : Option ℕ → RestRead → Type 0 where
  at_end : ReadsRest n bytes None (record { logs = []; annotation = None; bad = bad_at_end n bytes })
  with_logs : (refuted : ℕ) (read : LogsRead) → ReadsLogs refuted 0 n bytes read
      → ReadsRest n bytes (Some refuted) (rest_behind read)

pub record BodyRead : Type 0 where
  pub header : Header
  pub rest : RestRead

-- nothing is read behind bad line n of a header
abbrev pub no_rest : ℕ → RestRead
no_rest n = record { logs = []; annotation = None; bad = Some n }

pub data ReadsBody (circuit : Bool) (first : ℕ) (bytes : List ℕ) : BodyRead → Type 0 where
  of_header : (n : ℕ) → (header_of circuit first bytes).header.bad ≡ Some n
      → ReadsBody circuit first bytes (record { header = (header_of circuit first bytes).header; rest = no_rest n })
  of_rest : (rest : RestRead) → (header_of circuit first bytes).header.bad ≡ None
      → ReadsRest (header_of circuit first bytes).line (header_of circuit first bytes).rest (header_of circuit first bytes).header.refuted rest
      → ReadsBody circuit first bytes (record { header = (header_of circuit first bytes).header; rest = rest })

-- == the whole ==

-- What is read of a document: its circuit, the lines of the header with the line of the verdict, which is 0 where none is reached,
-- the logs, each as far as it is good, where the annotation stands, and the first bad line.
pub record SolvedLines : Type 0 where
  pub circuit : CircuitPart
  pub header : Header
  pub verdict_line : ℕ
  pub logs : List SizeLog
  pub annotation : Option AnnotationPlace
  pub bad : Option ℕ

-- the line and the place of an annotation that ends these bytes
abbrev pub place_in : List ℕ → Option AnnotationText → Option AnnotationPlace
place_in bytes annotation = option_map (λ a. record { line = a.line; at = length bytes - length a.text }) annotation

-- the lines behind a circuit, or without one, with the verdict in that line
abbrev pub lines_with : List ℕ → CircuitPart → ℕ → BodyRead → SolvedLines
lines_with bytes circuit verdict_line body = record {
  circuit = circuit;
  header = body.header;
  verdict_line = verdict_line;
  logs = body.rest.logs;
  annotation = place_in bytes body.rest.annotation;
  bad = body.rest.bad;
}

-- nothing but a circuit, with the bad line behind it or in it
abbrev pub circuit_alone : CircuitPart → ℕ → SolvedLines
circuit_alone circuit n = record { circuit = circuit; header = no_header; verdict_line = 0; logs = []; annotation = None; bad = Some n }

-- What is read of the comment behind a circuit. A missing name fails at the line `c`.
pub data ReadsBehind (bytes : List ℕ) (file : File) (comment : List ℕ) : SolvedLines → Type 0 where
  unnamed : all_named file.circuit ≡ false
      → ReadsBehind bytes file comment
      (lines_with bytes (Stated file) (file.comment_line + 2) (record { header = (header_of true (file.comment_line + 1) comment).header; rest = no_rest file.comment_line }))
  named : (body : BodyRead) → all_named file.circuit ≡ true → ReadsBody true (file.comment_line + 1) comment body
      → ReadsBehind bytes file comment (lines_with bytes (Stated file) (file.comment_line + 2) body)

-- What is read of a document's bytes. A missing line `c` fails where it is wanted.
pub data Reads (bytes : List ℕ) : SolvedLines → Type 0 where
  without_circuit : (body : BodyRead) → begins_without_circuit bytes ≡ true → ReadsBody false 1 bytes body
      → Reads bytes (lines_with bytes Absent 2 body)
  of_fault : (fault : CircuitFault) → begins_without_circuit bytes ≡ false → IsFirstFault bytes fault
      → Reads bytes (circuit_alone Faulty (fault_line fault))
  uncommented : (file : File) → begins_without_circuit bytes ≡ false → circuit.States bytes file → file.comment_at ≡ None
      → Reads bytes (circuit_alone (Stated file) file.comment_line)
  commented : (file : File) (at : ℕ) (lines : SolvedLines) → begins_without_circuit bytes ≡ false → circuit.States bytes file → file.comment_at ≡ Some at
      → ReadsBehind bytes file (drop at bytes) lines
      → Reads bytes lines

-- line n is the first that a document refuses without a text
pub record IsFirstBadLine (bytes : List ℕ) (n : ℕ) : Type 0 where
  pub lines : SolvedLines
  pub reads : Reads bytes lines
  pub bad : lines.bad ≡ Some n

-- the lines of the annotation
abbrev pub annotation_in : List ℕ → Option AnnotationPlace → List ℕ
annotation_in bytes annotation = option_map_or (λ a. drop a.at bytes) annotation []

-- the document of good lines, where none is missing
abbrev pub document_of : List ℕ → SolvedLines → Option Document
document_of bytes lines =
    option_and_then (λ verdict. option_map (λ kind. record { verdict = verdict; kind = kind; converted = lines.header.converted; circuit = circuit_in lines.circuit; logs = lines.logs; annotation = annotation_in bytes lines.annotation })
    lines.header.kind) lines.header.verdict
