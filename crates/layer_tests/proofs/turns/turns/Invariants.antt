use Rattle.std.proofs.Common.{◌≡◌, All}
use Rattle.propositional_logic.specs.Clause.{IsWithinVariables}
use Rattle.refutation_log.specs.declared.entries.Entry.{Entry}
use Rattle.clause_solver.specs.Worker.{IsWorkingOn}
use Rattle.layer_tests.proofs.turns.turns.Given as goal

abbrev pub invariant-loop-turn : goal.invariant-loop-turn
invariant-loop-turn l = (l.next.trail.vars ≡ l.base.vars) × (l.other.trail.vars ≡ l.base.vars) × All (λ (e : Entry). IsWithinVariables l.base.vars e.clause) l.log.items
    × IsWorkingOn l.base.clauses.items l.log.items l.next × IsWorkingOn l.base.clauses.items l.log.items l.other
