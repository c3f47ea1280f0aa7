use Rattle.std.proofs.Common.{sym, subst, ◌∙◌}
use Rattle.clause_solver.specs.Worker.{IsWorkingOn}
use Rattle.letter_search.proofs.working.work.Goals as goal

pub turn-requires-clause-working : goal.turn-requires-clause-working
turn-requires-clause-working g c =
    let base = c.args.base.now.clauses.items in
    let more = c.in_ok-read.ensures.longer in
    subst (λ es. IsWorkingOn base es c.loop.worker) (sym (c.deref.ensures.value ∙ more.1))
    (c.work_goes_on.ensures.longer base c.loop.entries.items more.0 c.loop.worker c.loop.invariant.2)
