use Rattle.std.proofs.Common.{◌≡◌, length}
use Rattle.unit_propagate.proofs.marks.Marks.clear.Given as goal

abbrev pub invariant-loop-mark : goal.invariant-loop-mark
invariant-loop-mark l = l.self.vars ≡ l.initial.self.vars

abbrev pub decreases-loop-mark : goal.decreases-loop-mark
decreases-loop-mark l = length l.self.marks
