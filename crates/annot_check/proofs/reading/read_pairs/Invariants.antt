use Rattle.std.proofs.Common.{◌≡◌, ◌≤◌, ◌+◌, [], length}
use Rattle.annot_check.specs.AnnotationText.{pieces_of, pairs_in}
use Rattle.annot_check.specs.Readings.{IsIndexed}
use Rattle.annot_check.proofs.reading.read_pairs.Given as goal

abbrev pub invariant-loop-line : goal.invariant-loop-line
invariant-loop-line l = record {
  reading : pairs_in l.latches l.states l.lines.count l.taken.pairs.items (pieces_of l.rest) l.number
      ≡ pairs_in l.latches l.states l.lines.count [] (pieces_of l.lines.rest.now) (l.lines.line + 1);
  counted : l.number + length l.rest ≤ l.lines.line + length l.lines.rest.now + 1;
  numbered : l.number ≡ l.lines.line + 1 + length l.taken.pairs.items;
  indexed : IsIndexed l.latches l.taken;
}

abbrev pub decreases-loop-line : goal.decreases-loop-line
decreases-loop-line l = length l.rest
