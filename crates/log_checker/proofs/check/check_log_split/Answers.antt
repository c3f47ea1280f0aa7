use Rattle.std.proofs.Common.{refl, sym}
use Rattle.std.proofs.lemmas.Result.{err_from_is_err_and}
use Rattle.refutation_log.proofs.LegalLemmas.{closed_refutes}
use Rattle.log_checker.proofs.FaultLemmas.{closed_fault}
use Rattle.log_checker.proofs.check.check_log_split.Goals as goal

pub returns-in_err-check_open_split-clause-fault : goal.returns-in_err-check_open_split-clause-fault
returns-in_err-check_open_split-clause-fault g c = λ fault e.
    let p = err_from_is_err_and c.from_residual.result c.from_residual.ensures.1 in
    let same = p.2 in
    let was = p.1 in
    closed_fault c.args.base.now.vars c.args.base.now.clauses.items c.args.limit c.args.entries.now fault (c.in_err-check_open_split.ensures.fault fault (cc))

pub returns-then-is_ended-clause-refutes : goal.returns-then-is_ended-clause-refutes
returns-then-is_ended-clause-refutes g c = λ ok values.
    closed_refutes values c.args.base.now.vars c.args.base.now.clauses.items c.args.limit c.args.entries.now
    (record { legal = c.in_ok-check_open_split.ensures.ok refl; refutes = sym c.if-is_ended.ensures })
