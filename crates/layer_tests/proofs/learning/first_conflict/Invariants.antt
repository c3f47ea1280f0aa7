use Rattle.std.proofs.Common.{◌≡◌, ◌++◌, []}
use Rattle.refutation_log.specs.Entry.{clauses_of}
use Rattle.unit_propagate.specs.Sound.{AreSoundMarks}
use Rattle.unit_propagate.specs.Watched.{IsWatching}
use Rattle.layer_tests.proofs.learning.first_conflict.Given as goal

abbrev pub invariant-loop-i : goal.invariant-loop-i
invariant-loop-i l = (l.trail.vars ≡ l.base.vars) × IsWatching (l.base.clauses.items ++ clauses_of []) l.trail.watched × AreSoundMarks (l.base.clauses.items ++ clauses_of []) l.trail.marks
