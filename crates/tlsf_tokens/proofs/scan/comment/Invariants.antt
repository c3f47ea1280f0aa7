use Rattle.std.proofs.Common.{length, ◌-◌, ◌≤◌}
use Rattle.tlsf_tokens.proofs.Comment.{LeavesOpen}
use Rattle.tlsf_tokens.proofs.scan.comment.Given as goal

abbrev pub invariant-loop-level : goal.invariant-loop-level
invariant-loop-level l = record { leaves : LeavesOpen l.rest l.at l.level; below : l.level ≤ l.at; begun : 2 ≤ l.at; within : l.at ≤ length l.rest }

abbrev pub decreases-loop-level : goal.decreases-loop-level
decreases-loop-level l = length l.rest - l.at
