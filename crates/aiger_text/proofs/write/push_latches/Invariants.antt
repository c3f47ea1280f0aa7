use Rattle.std.proofs.Common.{◌≡◌, ◌++◌, take}
use Rattle.std.specs.Prelude.{map}
use Rattle.aiger_text.specs.CircuitText.{text_of_lines, latch_line}
use Rattle.aiger_text.proofs.write.push_latches.Given as goal

abbrev pub invariant-loop-latch : goal.invariant-loop-latch
invariant-loop-latch l = l.text.items ≡ l.fn.text.items ++ text_of_lines (map latch_line (take l.latch-index l.latches))
