use Rattle.std.proofs.Common.{◌≡◌, ◌+◌, ◌≤◌, length}
use Rattle.solved_text.specs.Annotation.{bad_behind_end, pieces_of}
use Rattle.solved_text.proofs.annotation.bad_behind_end.Given as goal

abbrev pub invariant-loop-line : goal.invariant-loop-line
invariant-loop-line l = (bad_behind_end l.first (pieces_of l.text) ≡ bad_behind_end l.n (pieces_of l.rest)) × (l.n + length l.rest ≤ l.first + length l.text)

abbrev pub decreases-loop-line : goal.decreases-loop-line
decreases-loop-line l = length l.rest
