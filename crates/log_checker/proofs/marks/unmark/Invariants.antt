use Rattle.std.proofs.Common.{length}
use Rattle.log_checker.proofs.MarkLemmas.{IsLeft}
use Rattle.log_checker.proofs.marks.unmark.Given as goal

abbrev pub invariant-loop-lit : goal.invariant-loop-lit
invariant-loop-lit l = IsLeft l.vars l.table l.trail.items

abbrev pub decreases-loop-lit : goal.decreases-loop-lit
decreases-loop-lit l = length l.trail.items
