-- What the bytes of a document state line by line, and the first line that isn't what is wanted there, without the text that the
-- document is for (this project's own).
use Rattle.std.specs.Prelude.{◌≡◌, ◌==◌, ℕ, ◌+◌, Bool, true, false, ◌&&◌, Option, Some, None, List, [], drop, codes, unwrap_or, is_some, nat_eq, option_map, option_and_then, if◌then◌else◌}
use Rattle.std.specs.List.{starts_with, list_all}
use Rattle.aiger_text.specs.declared.faults.CircuitFault.{CircuitFault}
use Rattle.aiger_text.specs.declared.faults.CircuitFault.TheVariants.{NoMemory, BadHeader, BadLine, Undefined, DefinedTwice, Cycle, Unsupported, TooLarge}
use Rattle.aiger_text.specs.Circuit.{Circuit}
use Rattle.aiger_text.specs.CircuitFile.{File, IsFirstFault}
use Rattle.aiger_text.specs.CircuitFile as circuit
use Rattle.document_text.specs.declared.documents.Verdict.TheVariants.{Unknown}
use Rattle.document_text.specs.declared.header.Header.{Header}
use Rattle.document_text.specs.declared.order.Order.{Order}
use Rattle.document_text.specs.declared.reading.CircuitPart.{CircuitPart}
use Rattle.document_text.specs.declared.reading.CircuitPart.TheVariants.{Absent, Faulty, Stated}
use Rattle.document_text.specs.Parts.{LogPart, Document}
use Rattle.document_text.specs.Order.{order_of, first_place}
use Rattle.document_text.specs.Header.{no_header, header_of}
use Rattle.document_text.specs.Logs.{LogsRead, ReadsLogs}

-- What is read of a document: its circuit, the lines of the header with the line of the verdict, which is 0 where none is reached,
-- the logs, each as far as it is good, and the first bad line.
pub record DocumentLines : Type 0 where
  pub circuit : CircuitPart
  pub header : Header
  pub verdict_line : ℕ
  pub logs : List LogPart
  pub bad : Option ℕ

-- the order of the logs that a whole header wants
abbrev pub order_in : Header → Order
order_in h = order_of (unwrap_or h.version 0) (unwrap_or h.verdict (Unknown None)) (unwrap_or h.max 0) h.found

-- the number of lines of a whole header: one more where a machine that was found is told
abbrev pub line_count : Header → ℕ
line_count h = if h.found == 0 then 5 else 6

-- what is read of the lines behind a circuit, or without one
pub record BodyRead : Type 0 where
  pub header : Header
  pub logs : List LogPart
  pub bad : Option ℕ

pub data ReadsBody (circuit : Bool) (first : ℕ) (bytes : List ℕ) : BodyRead → Type 0 where
  of_header : (n : ℕ) → (header_of circuit first bytes).header.bad ≡ Some n
      → ReadsBody circuit first bytes (record { header = (header_of circuit first bytes).header; logs = []; bad = Some n })
  of_logs : (more : LogsRead) → (header_of circuit first bytes).header.bad ≡ None
      → ReadsLogs (order_in (header_of circuit first bytes).header) (first_place (order_in (header_of circuit first bytes).header))
      (first + line_count (header_of circuit first bytes).header) (header_of circuit first bytes).rest more
      → ReadsBody circuit first bytes (record { header = (header_of circuit first bytes).header; logs = more.logs; bad = more.bad })

-- each input and each output has a name
abbrev pub all_named : Circuit → Bool
all_named c = list_all is_some c.input_names && list_all is_some c.output_names

-- the bytes begin with the word of a document's first line, so there is no circuit
abbrev pub begins_without_circuit : List ℕ → Bool
begins_without_circuit bytes = starts_with nat_eq bytes (codes "boundsyn ")

-- the line of a circuit's fault
abbrev pub fault_line : CircuitFault → ℕ
fault_line NoMemory = 0
fault_line (BadHeader n) = n
fault_line (BadLine n) = n
fault_line (Undefined n) = n
fault_line (DefinedTwice n) = n
fault_line (Cycle n) = n
fault_line (Unsupported n) = n
fault_line (TooLarge n) = n

-- What is read of a circuit and the comment behind it. A missing name fails at the line `c`.
pub data ReadsBehind (file : File) (comment : List ℕ) : DocumentLines → Type 0 where
  unnamed : all_named file.circuit ≡ false
      → ReadsBehind file comment (record { circuit = Stated file; header = (header_of true (file.comment_line + 1) comment).header; verdict_line = file.comment_line + 2; logs = []; bad = Some file.comment_line })
  named : (body : BodyRead) → all_named file.circuit ≡ true → ReadsBody true (file.comment_line + 1) comment body
      → ReadsBehind file comment (record { circuit = Stated file; header = body.header; verdict_line = file.comment_line + 2; logs = body.logs; bad = body.bad })

-- What is read of a document's bytes. A missing line `c` fails where it is wanted.
pub data Reads (bytes : List ℕ) : DocumentLines → Type 0 where
  without_circuit : (body : BodyRead) → begins_without_circuit bytes ≡ true → ReadsBody false 1 bytes body
      → Reads bytes (record { circuit = Absent; header = body.header; verdict_line = 2; logs = body.logs; bad = body.bad })
  of_fault : (fault : CircuitFault) → begins_without_circuit bytes ≡ false → IsFirstFault bytes fault
      → Reads bytes (record { circuit = Faulty; header = no_header; verdict_line = 0; logs = []; bad = Some (fault_line fault) })
  uncommented : (file : File) → begins_without_circuit bytes ≡ false → circuit.States bytes file → file.comment_at ≡ None
      → Reads bytes (record { circuit = Stated file; header = no_header; verdict_line = 0; logs = []; bad = Some file.comment_line })
  commented : (file : File) (at : ℕ) (lines : DocumentLines) → begins_without_circuit bytes ≡ false → circuit.States bytes file → file.comment_at ≡ Some at
      → ReadsBehind file (drop at bytes) lines
      → Reads bytes lines

-- line n is the first that a document refuses without a text
pub record IsFirstBadLine (bytes : List ℕ) (n : ℕ) : Type 0 where
  pub lines : DocumentLines
  pub reads : Reads bytes lines
  pub bad : lines.bad ≡ Some n

-- == the document that was read ==

abbrev pub circuit_in : CircuitPart → Option Circuit
circuit_in Absent = None
circuit_in Faulty = None
circuit_in (Stated file) = Some file.circuit

abbrev pub name_lines_in : CircuitPart → List ℕ
name_lines_in Absent = []
name_lines_in Faulty = []
name_lines_in (Stated file) = file.name_lines

-- the line `c`, or 0 without a circuit
abbrev pub comment_line_in : CircuitPart → ℕ
comment_line_in Absent = 0
comment_line_in Faulty = 0
comment_line_in (Stated file) = file.comment_line

-- the document of good lines, where none is missing
abbrev pub document_of : DocumentLines → Option Document
document_of lines =
    option_and_then (λ version. option_and_then (λ verdict. option_and_then (λ kind. option_and_then (λ max.
    option_map (λ most. record { version = version; verdict = verdict; kind = kind; max = max; entries = most; found = lines.header.found; circuit = circuit_in lines.circuit; logs = lines.logs; name_lines = name_lines_in lines.circuit; comment_line = comment_line_in lines.circuit; verdict_line = lines.verdict_line })
    lines.header.entries) lines.header.max) lines.header.kind) lines.header.verdict) lines.header.version

-- the bytes that a reader was given, and whether memory was wanted for some of them
pub record Fed : Type 0 where
  pub bytes : List ℕ
  pub lost : Bool
