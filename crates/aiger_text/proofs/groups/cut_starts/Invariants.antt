use Rattle.std.proofs.Common.{length}
use Rattle.aiger_text.proofs.GroupLemmas.{CutsSoFar}
use Rattle.aiger_text.proofs.groups.cut_starts.Given as goal

abbrev pub invariant-loop-start : goal.invariant-loop-start
invariant-loop-start l = CutsSoFar l.fn.starts.items l.starts.items l.most

abbrev pub decreases-loop-start : goal.decreases-loop-start
decreases-loop-start l = length l.starts.items
