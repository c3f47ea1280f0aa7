use Rattle.std.proofs.Common.{rules}
use Rattle.document_text.proofs.Whole.{written_is_read}
use Rattle.document_text.proofs.laws.written_is_read.Goals as goal

pub returns : goal.returns
returns c = written_is_read c.args.document.now (search rules)
