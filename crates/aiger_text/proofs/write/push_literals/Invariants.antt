use Rattle.std.proofs.Common.{◌≡◌, ◌++◌, take}
use Rattle.std.specs.Prelude.{map}
use Rattle.std.specs.Prelude.{decimal}
use Rattle.aiger_text.specs.CircuitText.{text_of_lines}
use Rattle.aiger_text.proofs.write.push_literals.Given as goal

abbrev pub invariant-loop-literal : goal.invariant-loop-literal
invariant-loop-literal l = l.text.items ≡ l.fn.text.items ++ text_of_lines (map decimal (take l.literal-index l.literals))
