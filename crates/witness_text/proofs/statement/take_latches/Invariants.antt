use Rattle.std.proofs.Common.{◌≡◌, ◌-◌, ◌≤◌, [], length}
use Rattle.witness_text.specs.Forms.{latch_in}
use Rattle.witness_text.specs.Statement.{values_from}
use Rattle.witness_text.proofs.statement.take_latches.Given as goal

-- what is read from here on behind the lines so far is what is read in all
abbrev pub invariant-loop-alloc : goal.invariant-loop-alloc
invariant-loop-alloc l = (values_from latch_in l.latches.items (l.count - length l.latches.items) l.rest ≡ values_from latch_in [] l.count l.bytes) × (length l.latches.items ≤ l.count)

abbrev pub decreases-loop-alloc : goal.decreases-loop-alloc
decreases-loop-alloc l = l.count - length l.latches.items
