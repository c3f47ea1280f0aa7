use Rattle.std.proofs.Common.{rules}
use Rattle.document_text.specs.Lines.{version_line, verdict_line, kind_line, max_line, entries_line, found_lines}
use Rattle.document_text.proofs.WriteLemmas.{header_parts}
use Rattle.document_text.proofs.write.push_header.Goals as goal

pub returns : goal.returns
returns c =
    header_parts c.args.text.now.items c.push_numbered.new.text.items c.push_verdict.new.text.items c.push_kind.new.text.items c.push_numbered-2.new.text.items
    c.push_limit.new.text.items c.push_found.new.text.items
    (version_line c.args.document.now.version) (verdict_line c.args.document.now.verdict) (kind_line c.args.document.now.kind) (max_line c.args.document.now.max)
    (entries_line c.args.document.now.entries) (found_lines c.args.document.now.found)
    (search rules) (search rules) (search rules) (search rules) (search rules) (search rules)
