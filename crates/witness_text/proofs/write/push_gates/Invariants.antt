use Rattle.std.proofs.Common.{◌≡◌, ◌++◌, map, take}
use Rattle.aiger_text.specs.CircuitText.{text_of_lines}
use Rattle.witness_text.specs.Lines.{gate_line}
use Rattle.witness_text.proofs.write.push_gates.Given as goal

abbrev pub invariant-loop-gate : goal.invariant-loop-gate
invariant-loop-gate l = l.text.items ≡ l.fn.text.items ++ text_of_lines (map gate_line (take l.gate-index l.gates))
