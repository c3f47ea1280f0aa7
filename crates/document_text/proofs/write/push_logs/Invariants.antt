use Rattle.std.proofs.Common.{◌≡◌, ◌++◌, take}
use Rattle.std.specs.List.{flat_map}
use Rattle.document_text.specs.Lines.{part_text}
use Rattle.document_text.proofs.write.push_logs.Given as goal

abbrev pub invariant-loop-log : goal.invariant-loop-log
invariant-loop-log l = l.text.items ≡ l.fn.text.items ++ flat_map part_text (take l.log-index l.logs)
