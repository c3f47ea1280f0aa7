use Rattle.std.proofs.Common.{◌≡◌, drop}
use Rattle.document_check.specs.FirstBad.{line_behind}
use Rattle.document_check.proofs.check.line_behind.Given as goal

-- the line behind the logs that are left is that behind all
abbrev pub invariant-loop-log : goal.invariant-loop-log
invariant-loop-log l = line_behind l.line (drop l.log-index l.logs) ≡ line_behind l.first l.logs
