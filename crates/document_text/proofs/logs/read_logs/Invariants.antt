use Rattle.std.proofs.Common.{◌+◌, ◌≤◌, length}
use Rattle.document_text.proofs.LogsLemmas.{Goes}
use Rattle.document_text.proofs.logs.read_logs.Given as goal

-- the logs so far were read, and the lines so far are bytes
abbrev pub invariant-loop-after : goal.invariant-loop-after
invariant-loop-after l = Goes l.order l.first l.bytes l.logs.items l.last l.line l.rest × (l.line + length l.rest ≤ l.first + length l.bytes)

abbrev pub decreases-loop-after : goal.decreases-loop-after
decreases-loop-after l = length l.rest
