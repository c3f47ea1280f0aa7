use Rattle.std.proofs.Common.{subst}
use Rattle.truth_witness.specs.Obligations.{clauses_of}
use Rattle.witness_check.specs.Logs.{HoldsOver}
use Rattle.witness_check.proofs.bases.Base.test.Goals as goal

pub returns-clause-ok : goal.returns-clause-ok
returns-clause-ok c = λ ok.
    subst (λ vars. HoldsOver vars (clauses_of c.args.claim.now c.args.obligation) c.args.log.now) c.in_ok-list.ensures.vars
    (subst (λ clauses. HoldsOver c.list.new.self.cnf.vars clauses c.args.log.now) c.in_ok-list.ensures.clauses (c.test_log.ensures.ok ok))
