-- A restriction takes a step, and then goes on below the topmost level.
use Rattle.std.proofs.Common.{◌+◌, ◌*◌}
use Rattle.decision_diagrams.proofs.diagrams.Diagrams.+restrictions.Given as goal

abbrev pub decreases-restriction : goal.decreases-restriction
decreases-restriction l = 2 * l.depth

abbrev pub decreases-restriction_below : goal.decreases-restriction_below
decreases-restriction_below l = 2 * l.depth + 1
