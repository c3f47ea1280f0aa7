use Rattle.std.proofs.Common.{sym}
use Rattle.tlsf_syntax.proofs.Seen.{span_seen}
use Rattle.tlsf_reader.proofs.node.span.Goals as goal

pub returns : goal.returns
returns c = sym (span_seen c.args.tree.now.span c.args.tree.now.form)
