use Rattle.std.proofs.Common.{◌≡◌, ◌-◌, ◌≤◌, [], length}
use Rattle.witness_text.specs.Forms.{gate_in}
use Rattle.witness_text.specs.Statement.{values_from}
use Rattle.witness_text.proofs.statement.take_gates.Given as goal

-- what is read from here on behind the lines so far is what is read in all
abbrev pub invariant-loop-alloc : goal.invariant-loop-alloc
invariant-loop-alloc l = (values_from gate_in l.gates.items (l.count - length l.gates.items) l.rest ≡ values_from gate_in [] l.count l.bytes) × (length l.gates.items ≤ l.count)

abbrev pub decreases-loop-alloc : goal.decreases-loop-alloc
decreases-loop-alloc l = l.count - length l.gates.items
