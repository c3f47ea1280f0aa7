use Rattle.std.proofs.Common.{◌≡◌, ◌++◌, map, take}
use Rattle.aiger_text.specs.CircuitText.{text_of_lines}
use Rattle.witness_text.specs.Lines.{latch_line}
use Rattle.witness_text.proofs.write.push_latches.Given as goal

abbrev pub invariant-loop-next : goal.invariant-loop-next
invariant-loop-next l = l.text.items ≡ l.fn.text.items ++ text_of_lines (map latch_line (take l.next-index l.latches))
