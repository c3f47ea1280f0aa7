-- What the reader has of a document's lines (this project's own).
use Rattle.document_text.specs.declared.header.HeaderRead.{HeaderRead}
use Rattle.document_text.specs.declared.logs.LogsRead.{LogsRead}
use Rattle.document_text.specs.declared.reading.BodyRead.{BodyRead}
use Rattle.document_text.specs.Header as header
use Rattle.document_text.specs.Logs as logs
use Rattle.document_text.specs.Reading as reading

abbrev pub shown_header : HeaderRead → header.HeaderRead
shown_header r = record { header = r.header; rest = r.rest.now }

abbrev pub shown_logs : LogsRead → logs.LogsRead
shown_logs r = record { logs = r.logs.items; bad = r.bad }

abbrev pub shown_body : BodyRead → reading.BodyRead
shown_body b = record { header = b.header; logs = b.logs.items; bad = b.bad }
