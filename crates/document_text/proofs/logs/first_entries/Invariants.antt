use Rattle.std.proofs.Common.{◌-◌, ◌≤◌, length}
use Rattle.refutation_log.specs.Read.{StatesEntries}
use Rattle.document_text.proofs.logs.first_entries.Given as goal

-- the entries so far are the first, and no more than were asked for
abbrev pub invariant-loop-alloc : goal.invariant-loop-alloc
invariant-loop-alloc l = StatesEntries l.vars l.bytes l.entries.items l.rest × (length l.entries.items ≤ l.count)

abbrev pub decreases-loop-alloc : goal.decreases-loop-alloc
decreases-loop-alloc l = l.count - length l.entries.items
