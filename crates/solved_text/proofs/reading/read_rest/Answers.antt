use Rattle.std.proofs.Common.{refl}
use Rattle.solved_text.specs.Reading.{at_end, with_logs}
use Rattle.solved_text.specs.Shown.{shown_logs}
use Rattle.solved_text.proofs.BodyLemmas.{logs_room}
use Rattle.solved_text.proofs.reading.read_rest.Goals as goal

pub returns-in_default : goal.returns-in_default
returns-in_default c = rw (c.in_default.is, c.new.ensures.items, c.bad_at_end.ensures) at_end

pub behind-requires : goal.behind-requires
behind-requires c =
    logs_room c.in-Some.refuted c.args.n c.args.bytes.now (shown_logs c.in_ok-read.read) c.in_ok-read.read.rest c.in_ok-read.ensures refl c.requires

pub returns : goal.returns
returns c = rw (c.in-Some.is, c.behind.ensures) (with_logs c.in-Some.refuted (shown_logs c.in_ok-read.read) c.in_ok-read.ensures)
