use Rattle.std.proofs.Common.{◌≡◌, take}
use Rattle.witness_text.specs.Places.{lines_of_logs}
use Rattle.witness_text.proofs.lines.lines_of.Given as goal

abbrev pub invariant-loop-log : goal.invariant-loop-log
invariant-loop-log l = l.lines ≡ lines_of_logs (take l.log-index l.logs)
