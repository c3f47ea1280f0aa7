use Rattle.std.proofs.Common.{◌<◌, ◌++◌, arith}
use Rattle.refutation_log.specs.Entry.{clauses_of}
use Rattle.conflict_learn.proofs.StepLemmas.{place_of_named, named_again}
use Rattle.conflict_learn.proofs.analysis.Analysis.resolve.Goals as goal

pub overflow_sub-reason : goal.overflow_sub-reason
overflow_sub-reason c =
    let m = c.requires.there in
    let r = c.requires.sound.reasons c.args.place m.0 c.args.reason m.1 m.2 in
    let p = place_of_named (c.args.base.now.clauses.items ++ clauses_of c.args.seen.now) c.args.reason r.clause r.named in
    let lt : 0 < c.args.reason = p.0 in omega arith

pub clause_at-clause-requires : goal.clause_at-clause-requires
clause_at-clause-requires c =
    let m = c.requires.there in
    let r = c.requires.sound.reasons c.args.place m.0 c.args.reason m.1 m.2 in
    let p = place_of_named (c.args.base.now.clauses.items ++ clauses_of c.args.seen.now) c.args.reason r.clause r.named in p.2

pub returns-clause-resolves : goal.returns-clause-resolves
returns-clause-resolves c =
    let m = c.requires.there in
    let r = c.requires.sound.reasons c.args.place m.0 c.args.reason m.1 m.2 in
    record {
      clause = c.clause_at-clause.result.now;
      named = named_again (c.args.base.now.clauses.items ++ clauses_of c.args.seen.now) c.args.reason r.clause c.clause_at-clause.result.now r.named c.clause_at-clause.ensures;
      sorted = c.lits.ensures.sorted;
      keeps = c.add_falsifiers.ensures.keeps;
      all = rw c.lits.ensures.value at c.in_ok-add_falsifiers.ensures.all;
      only = rw c.lits.ensures.value at c.add_falsifiers.ensures.only;
    }
