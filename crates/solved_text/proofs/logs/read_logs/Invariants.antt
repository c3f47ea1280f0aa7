use Rattle.std.proofs.Common.{◌+◌, ◌-◌, ◌≤◌, length}
use Rattle.solved_text.proofs.LogLemmas.{Goes}
use Rattle.solved_text.proofs.logs.read_logs.Given as goal

-- the logs so far were read, and the lines so far are bytes
abbrev pub invariant-loop-last : goal.invariant-loop-last
invariant-loop-last l = Goes l.refuted l.first l.bytes l.logs.items l.last l.line l.rest × (l.line + length l.rest ≤ l.first + length l.bytes) × (l.last ≤ l.refuted)

abbrev pub decreases-loop-last : goal.decreases-loop-last
decreases-loop-last l = l.refuted - l.last
