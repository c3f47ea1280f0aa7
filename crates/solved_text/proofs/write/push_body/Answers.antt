use Rattle.std.proofs.Common.{rules}
use Rattle.std_lemmas.proofs.Lists.{two_parts}
use Rattle.solved_text.specs.Lines.{header_text, rest_text}
use Rattle.solved_text.proofs.write.push_body.Goals as goal

pub returns : goal.returns
returns c =
    two_parts c.args.text.now.items (header_text c.args.document.now) (rest_text c.args.document.now.verdict c.args.document.now.logs c.args.document.now.annotation)
    c.push_header.new.text.items c.push_rest.new.text.items (search rules) (search rules)
