use Rattle.std.proofs.Common.{◌++◌, subst}
use Rattle.refutation_log.specs.Entry.{clauses_of}
use Rattle.conflict_learn.specs.Analysis.{IsAnalysis}
use Rattle.conflict_learn.proofs.analysis.Analysis.finish.Goals as goal

pub loop-place-preserved : goal.loop-place-preserved
loop-place-preserved c =
    c.in_ok-step.ensures c.loop-place.bound
    (subst (λ ps. IsAnalysis (c.args.base.now.clauses.items ++ clauses_of c.args.seen.now) c.args.trail.now.marks c.args.top c.loop-place.bound ps c.loop-place.self.lits.items c.loop-place.self.hints.items)
    c.in-Some.ensures.some.0 c.loop-place.invariant)
