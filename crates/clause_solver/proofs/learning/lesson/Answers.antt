use Rattle.std.proofs.Common.{◌++◌, refl}
use Rattle.refutation_log.specs.Entry.{clauses_of}
use Rattle.unit_propagate.specs.Trail.{literals_of}
use Rattle.conflict_learn.proofs.AnalysisLemmas.{falsified_clause}
use Rattle.clause_solver.proofs.TeachLemmas.{learnt_clauses_teach, quiet_below_clause, falsified_within}
use Rattle.clause_solver.proofs.learning.lesson.Goals as goal

pub returns : goal.returns
returns c =
    let cl = c.args.base.now.clauses.items ++ clauses_of c.args.seen.now in
    let marks = c.args.trail.now.marks in
    let conflict = falsified_clause cl (literals_of marks) c.args.falsified c.requires.falsified in
    let learnt = c.in_ok-learned.ensures.learnt conflict.0 conflict.1 in
    rw c.in_ok-clause.ensures (record {
      worker = refl;
      within = rw c.requires.variables (falsified_within c.args.trail.now.vars marks c.in_ok-learned.learned.clause c.len-len.ensures.trail learnt.falsified);
      follows = c.in_ok-learned.ensures.follows;
      teaches = learnt_clauses_teach c.args.trail.now.vars cl marks conflict.0 c.in_ok-learned.learned.clause c.len-len.ensures.trail learnt (quiet_below_clause cl marks conflict.0 c.requires.quiet);
    })
