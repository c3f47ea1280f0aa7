use Rattle.std.proofs.Common.{◌≡◌, subst}
use Rattle.log_checker.specs.Causes.{IsOpenFault}
use Rattle.log_checker.proofs.FaultLemmas.{open_fault, legal_of_none}
use Rattle.log_checker.proofs.check.check_open.Goals as goal

pub returns-in-Some-clause-fault : goal.returns-in-Some-clause-fault
returns-in-Some-clause-fault c = λ fault e.
    let same : c.in-Some.fault ≡ fault = cc in
    subst (λ f. IsOpenFault c.args.base.now.vars c.args.base.now.clauses.items c.args.limit c.args.entries.now f) same
    (open_fault c.args.base.now.vars c.args.base.now.clauses.items c.args.limit c.args.entries.now c.in-Some.fault (rw c.in-Some.is at c.in_ok-fault.ensures))

pub returns-in-None-clause-ok : goal.returns-in-None-clause-ok
returns-in-None-clause-ok c = λ ok.
    legal_of_none c.args.base.now.vars c.args.base.now.clauses.items c.args.limit c.args.entries.now c.requires.within (rw c.in-None.is at c.in_ok-fault.ensures)
