use Rattle.std.proofs.Common.{rules}
use Rattle.document_text.specs.Lines.{kind_line}
use Rattle.solved_text.specs.Lines.{semantics_part, verdict_line, version_text}
use Rattle.solved_text.proofs.WriteLemmas.{header_parts}
use Rattle.solved_text.proofs.write.push_header.Goals as goal

pub returns : goal.returns
returns c =
    header_parts c.args.text.now.items version_text (verdict_line c.args.document.now.verdict) (kind_line c.args.document.now.kind)
    (semantics_part c.args.document.now.converted c.args.document.now.kind)
    c.extend_from_slice.new.self.items c.push_verdict.new.text.items c.push_kind.new.text.items c.push_semantics.new.text.items
    (search rules) (search rules) (search rules) (search rules)
