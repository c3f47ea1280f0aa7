use Rattle.std.proofs.Common.{ap, ◌++◌, subst, sym}
use Rattle.refutation_log.specs.Entry.{clauses_of}
use Rattle.conflict_learn.specs.Analysis.{IsAnalysis}
use Rattle.conflict_learn.proofs.WholeLemmas.{on_ok_both, on_ok_one, left_at, resolved_at}
use Rattle.conflict_learn.proofs.analysis.Analysis.step.Goals as goal

pub returns-in-Some : goal.returns-in-Some
returns-in-Some c =
    on_ok_both c.resolve.result c.resolve.ensures.resolves c.resolve.ensures.hints (λ s more bound a.
    resolved_at (c.args.base.now.clauses.items ++ clauses_of c.args.seen.now) c.args.trail.now.vars c.args.trail.now.marks c.args.top bound c.args.place c.in-Some.reason
    c.args.self.now.places c.resolve.new.self.places c.args.self.now.lits.items c.resolve.new.self.lits.items c.args.self.now.hints.items c.resolve.new.self.hints.items
    c.requires.trail c.requires.sound c.requires.low c.in-Some.ensures.some s (ap (λ v. v.items) c.resolve.ensures.lits) more a)

pub returns-in-None : goal.returns-in-None
returns-in-None c =
    on_ok_one c.keep.result c.keep.ensures.lits (λ k bound a.
    let cl = c.args.base.now.clauses.items ++ clauses_of c.args.seen.now in
    subst (λ v. IsAnalysis cl c.args.trail.now.marks c.args.top c.args.place c.keep.new.self.places c.keep.new.self.lits.items v.items) (sym c.keep.ensures.hints)
    (left_at cl c.args.trail.now.vars c.args.trail.now.marks c.args.top bound c.args.place c.args.self.now.places c.keep.new.self.places c.args.self.now.lits.items c.keep.new.self.lits.items
    c.args.self.now.hints.items k.0 c.requires.trail c.requires.low (c.in-None.ensures.none cl c.requires.sound) k.1 k.2 c.keep.ensures.places a))
