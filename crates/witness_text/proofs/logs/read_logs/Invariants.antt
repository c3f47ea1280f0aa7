use Rattle.std.proofs.Common.{◌+◌, ◌-◌, ◌≤◌, length}
use Rattle.witness_text.proofs.LogLemmas.{Goes}
use Rattle.witness_text.proofs.logs.read_logs.Given as goal

-- the proofs so far were read, and the lines so far are bytes
abbrev pub invariant-loop-alloc : goal.invariant-loop-alloc
invariant-loop-alloc l = Goes l.count l.first l.bytes l.logs.items l.line l.rest × (l.line + length l.rest ≤ l.first + length l.bytes) × (length l.logs.items ≤ l.count)

abbrev pub decreases-loop-alloc : goal.decreases-loop-alloc
decreases-loop-alloc l = l.count - length l.logs.items
