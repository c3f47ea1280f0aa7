-- What the reader has of a document's lines (this project's own).
use Rattle.std.specs.Prelude.{◌≡◌, ℕ, List, Option, option_map}
use Rattle.std.specs.Option.{option_copied}
use Rattle.solved_text.specs.declared.annotation.AnnotationText.{AnnotationText}
use Rattle.solved_text.specs.declared.header.HeaderRead.{HeaderRead}
use Rattle.solved_text.specs.declared.logs.LogsRead.{LogsRead}
use Rattle.solved_text.specs.declared.reading.BodyRead.{BodyRead}
use Rattle.solved_text.specs.declared.reading.RestRead.{RestRead}
use Rattle.document_text.specs.Logs.{AreFirstEntries}
use Rattle.solved_text.specs.declared.heads.Head.{Head}
use Rattle.solved_text.specs.Parts.{SizeLog}
use Rattle.solved_text.specs.Logs.{log_of}
use Rattle.solved_text.specs.Annotation as annotation
use Rattle.solved_text.specs.Header as header
use Rattle.solved_text.specs.Logs as logs
use Rattle.solved_text.specs.Reading as reading

abbrev pub shown_header : HeaderRead → header.HeaderRead
shown_header r = record { header = r.header; line = r.line; rest = r.rest.now }

abbrev pub shown_logs : LogsRead → logs.LogsRead
shown_logs r = record { logs = r.logs.items; line = r.line; rest = option_copied r.rest }

abbrev pub shown_annotation : Option AnnotationText → Option annotation.AnnotationText
shown_annotation a = option_map (λ a. record { line = a.line; text = a.text.now }) a

abbrev pub shown_rest : RestRead → reading.RestRead
shown_rest r = record { logs = r.logs.items; annotation = shown_annotation r.annotation; bad = r.bad }

abbrev pub shown_body : BodyRead → reading.BodyRead
shown_body b = record { header = b.header; rest = shown_rest b.rest }

-- What was read of a log behind its head, which is line n: the first entries of the bytes, as many as the head says at most.
pub record IsLogAt (head : Head) (n : ℕ) (bytes : List ℕ) (log : SizeLog) (rest : List ℕ) : Type 0 where
  pub entries : AreFirstEntries head.vars head.count bytes log.entries rest
  pub log_is : log ≡ log_of head log.entries n
