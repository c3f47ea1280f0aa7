use Rattle.std.proofs.Common.{◌≡◌, ◌++◌, map, take}
use Rattle.aiger_text.specs.CircuitText.{text_of_lines}
use Rattle.witness_text.specs.Lines.{part_line}
use Rattle.witness_text.proofs.write.push_parts.Given as goal

abbrev pub invariant-loop-part : goal.invariant-loop-part
invariant-loop-part l = l.text.items ≡ l.fn.text.items ++ text_of_lines (map part_line (take l.part-index l.parts))
