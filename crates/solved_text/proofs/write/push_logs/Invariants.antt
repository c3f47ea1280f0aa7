use Rattle.std.proofs.Common.{◌≡◌, ◌++◌, take}
use Rattle.std.specs.List.{flat_map}
use Rattle.solved_text.specs.Lines.{log_part}
use Rattle.solved_text.proofs.write.push_logs.Given as goal

abbrev pub invariant-loop-log : goal.invariant-loop-log
invariant-loop-log l = l.text.items ≡ l.fn.text.items ++ flat_map log_part (take l.log-index l.logs)
