use Rattle.std.proofs.Common.{◌≡◌, ◌++◌, take}
use Rattle.aiger_text.specs.CircuitText.{text_of_lines, name_lines}
use Rattle.aiger_text.proofs.write.push_names.Given as goal

abbrev pub invariant-loop-place : goal.invariant-loop-place
invariant-loop-place l = l.text.items ≡ l.fn.text.items ++ text_of_lines (name_lines l.named 0 (take l.place l.names))
