use Rattle.std.proofs.Common.{◌≡◌, length}
use Rattle.clause_solver.specs.Free.{free_count}
use Rattle.clause_solver.specs.Worker.{IsSearching}
use Rattle.clause_solver.proofs.search.Search.turn.Given as goal

abbrev pub invariant-loop-turned : goal.invariant-loop-turned
invariant-loop-turned l = IsSearching l.base.clauses.items l.seen l.self.trail (length l.seen) × (l.self.shown ≡ length l.seen) × (l.self.number ≡ l.initial.self.number) × (l.self.trail.vars ≡ l.initial.self.trail.vars)

abbrev pub decreases-loop-turned : goal.decreases-loop-turned
decreases-loop-turned l = free_count l.base.vars l.self.trail.marks
