use Rattle.std.proofs.Common.{◌≡◌, All}
use Rattle.propositional_logic.specs.Clause.{IsWithinVariables}
use Rattle.refutation_log.specs.declared.entries.Entry.{Entry}
use Rattle.clause_solver.specs.Worker.{IsWorkingOn}
use Rattle.letter_search.proofs.working.work.Given as goal

abbrev pub invariant-loop : goal.invariant-loop
invariant-loop g l =
    (l.worker.trail.vars ≡ l.base.vars) × All (λ (e : Entry). IsWithinVariables l.base.vars e.clause) l.entries.items × IsWorkingOn l.base.clauses.items l.entries.items l.worker
