use Rattle.std.proofs.Common.{◌++◌}
use Rattle.refutation_log.specs.Entry.{clauses_of}
use Rattle.conflict_learn.specs.Analysis.{IsAnalysis}
use Rattle.conflict_learn.proofs.analysis.Analysis.finish.Given as goal

abbrev pub invariant-loop-place : goal.invariant-loop-place
invariant-loop-place l = IsAnalysis (l.base.clauses.items ++ clauses_of l.seen) l.trail.marks l.top l.bound l.self.places l.self.lits.items l.self.hints.items

abbrev pub decreases-loop-place : goal.decreases-loop-place
decreases-loop-place l = l.bound
