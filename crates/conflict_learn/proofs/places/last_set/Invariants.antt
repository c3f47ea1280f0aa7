use Rattle.std.proofs.Common.{◌≤◌, length}
use Rattle.conflict_learn.proofs.PlacesLemmas.{NoneFrom}
use Rattle.conflict_learn.proofs.places.last_set.Given as goal

abbrev pub invariant-loop-end : goal.invariant-loop-end
invariant-loop-end l = (l.end ≤ length l.flags) × NoneFrom l.flags l.end

abbrev pub decreases-loop-end : goal.decreases-loop-end
decreases-loop-end l = l.end
