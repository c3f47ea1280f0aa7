use Rattle.std.proofs.Common.{◌≡◌, ◌≤◌, ◌-◌, length}
use Rattle.propositional_logic.specs.Codes.{code_of}
use Rattle.unit_propagate.specs.Rows.{row_at}
use Rattle.unit_propagate.specs.Propagator.{clauses_in, IsVisiting, Goes, Stays}
use Rattle.unit_propagate.proofs.propagator.Propagator.look.Given as goal

abbrev pub invariant-loop-blocker : goal.invariant-loop-blocker
invariant-loop-blocker l = IsVisiting (clauses_in l.base l.seen) l.self l.falsified l.kept l.place × Goes (clauses_in l.base l.seen) l.initial.self l.self × Stays l.initial.self l.self
    × (length l.self.watches.rows ≡ length l.initial.self.watches.rows) × (l.place ≤ length (row_at l.self.watches.rows (code_of l.falsified)))

abbrev pub decreases-loop-blocker : goal.decreases-loop-blocker
decreases-loop-blocker l = length (row_at l.self.watches.rows (code_of l.falsified)) - l.place
