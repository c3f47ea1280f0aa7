use Rattle.std.proofs.Common.{sym}
use Rattle.annot_check.specs.Readings.{headed_of}
use Rattle.annot_check.proofs.ReadLemmas.{head_bad, head_left, head_none}
use Rattle.annot_check.proofs.reading.read_head.Goals as goal

pub returns-in-Err-clause-bad : goal.returns-in-Err-clause-bad
returns-in-Err-clause-bad c = λ latches states. head_none latches states c.args.lines.now c.in-Err.line c.in-Err.ensures.bad

pub returns-in-Some-clause-ok : goal.returns-in-Some-clause-ok
returns-in-Some-clause-ok c = λ latches states.
    head_left latches states c.args.lines.now (headed_of c.in-Ok.head) c.in-Some.count c.in-Ok.ensures.ok (sym c.in-Some.ensures)

pub returns-in-None-clause-bad : goal.returns-in-None-clause-bad
returns-in-None-clause-bad c = λ latches states. head_bad latches states c.args.lines.now (headed_of c.in-Ok.head) c.in-Ok.ensures.ok (sym c.in-None.ensures)
