use Rattle.std.proofs.Common.{rules}
use Rattle.document_text.proofs.EntriesLemmas.{none_at_bad, one_entry}
use Rattle.document_text.proofs.logs.take_entry.Goals as goal

pub returns-in-Err-BadLine : goal.returns-in-Err-BadLine
returns-in-Err-BadLine c =
    none_at_bad c.args.vars c.in-Err-BadLine.field-0-0 c.args.bytes.now (c.in-Err-BadLine.ensures.bad_line c.in-Err-BadLine.field-0-0 (search rules))

pub returns-in-Some : goal.returns-in-Some
returns-in-Some c =
    one_entry c.args.vars c.in-Ok.log.used c.args.bytes.now c.in-Ok.log.entries.items c.pop.new.self.items c.in-Some.entry (search rules) (search rules)
