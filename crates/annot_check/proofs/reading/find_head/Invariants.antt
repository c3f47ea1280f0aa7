use Rattle.std.proofs.Common.{◌≡◌, ◌≤◌, ◌+◌, length}
use Rattle.annot_check.specs.AnnotationText.{head_from, pieces_of}
use Rattle.annot_check.proofs.reading.find_head.Given as goal

abbrev pub invariant-loop-line : goal.invariant-loop-line
invariant-loop-line l = record {
  reading : head_from (pieces_of l.rest) l.number ≡ head_from (pieces_of l.lines) 1;
  counted : l.number + length l.rest ≤ length l.lines + 1;
}

abbrev pub decreases-loop-line : goal.decreases-loop-line
decreases-loop-line l = length l.rest
