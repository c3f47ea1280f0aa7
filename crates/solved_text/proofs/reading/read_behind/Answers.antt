use Rattle.std.proofs.Common.{refl, rules}
use Rattle.solved_text.specs.Reading.{named}
use Rattle.solved_text.specs.Shown.{shown_body, shown_header, shown_rest}
use Rattle.solved_text.proofs.BodyLemmas.{unnamed_reads}
use Rattle.solved_text.proofs.reading.read_behind.Goals as goal

pub returns-in_ok-body : goal.returns-in_ok-body
returns-in_ok-body c = rw (c.behind.ensures, ← c.file.view_is) (named (shown_body c.in_ok-body.body) (search rules) c.in_ok-body.ensures)

pub returns-else-all_named : goal.returns-else-all_named
returns-else-all_named c =
    rw (c.behind-else-all_named.ensures, ← c.file.view_is)
    (unnamed_reads c.args.bytes.now _ c.args.comment.now c.file.inside.comment_line (shown_header c.read_header.result) (shown_rest c.none.result) refl (search rules)
    c.read_header.ensures c.none.ensures)
