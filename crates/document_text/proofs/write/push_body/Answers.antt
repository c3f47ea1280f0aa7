use Rattle.std.proofs.Common.{rules}
use Rattle.std.specs.List.{flat_map}
use Rattle.std_lemmas.proofs.Lists.{three_parts}
use Rattle.document_text.specs.Lines.{header_text, part_text, end_text}
use Rattle.document_text.proofs.write.push_body.Goals as goal

pub returns : goal.returns
returns c =
    three_parts c.args.text.now.items (header_text c.args.document.now) (flat_map part_text c.args.document.now.logs) end_text
    c.push_header.new.text.items c.push_logs.new.text.items c.push_line.new.text.items
    (search rules) (search rules) (search rules)
