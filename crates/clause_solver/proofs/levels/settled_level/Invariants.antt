use Rattle.std.proofs.Common.{All, take}
use Rattle.refutation_log.specs.declared.entries.Entry.{Entry}
use Rattle.clause_solver.specs.Levels.{IsIdleBelow}
use Rattle.clause_solver.proofs.levels.settled_level.Given as goal

abbrev pub invariant-loop-entry : goal.invariant-loop-entry
invariant-loop-entry l = All (λ (e : Entry). IsIdleBelow l.least l.trail.marks e.clause) (take l.entry-index l.entries)
