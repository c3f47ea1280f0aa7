use Rattle.std.proofs.Common.{ap, rules}
use Rattle.document_text.specs.Reading.{named, unnamed}
use Rattle.document_text.specs.Shown.{shown_body}
use Rattle.document_text.proofs.reading.read_behind.Goals as goal

pub returns-in_ok-body : goal.returns-in_ok-body
returns-in_ok-body c = rw (c.behind.ensures, ← c.file.view_is) (named (shown_body c.in_ok-body.body) (search rules) c.in_ok-body.ensures)

pub returns-else-all_named : goal.returns-else-all_named
returns-else-all_named c = rw (← c.file.view_is, c.new.ensures.items, ap (λ r. r.header) c.read_header.ensures) (unnamed (search rules))
