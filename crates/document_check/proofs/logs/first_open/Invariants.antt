use Rattle.std.proofs.Common.{◌≡◌, drop}
use Rattle.document_check.specs.Holds.{first_open}
use Rattle.document_check.proofs.logs.first_open.Given as goal

-- no log so far is open
abbrev pub invariant-loop-log : goal.invariant-loop-log
invariant-loop-log l = first_open (drop l.log-index l.logs) ≡ first_open l.logs
