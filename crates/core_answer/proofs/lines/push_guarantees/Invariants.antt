use Rattle.std.proofs.Common.{◌≡◌, ◌++◌, drop}
use Rattle.core_answer.specs.Core.{guarantee_lines}
use Rattle.core_answer.proofs.lines.push_guarantees.Given as goal

abbrev pub invariant-loop-number : goal.invariant-loop-number
invariant-loop-number l = l.fn.bytes.items ++ guarantee_lines l.numbers ≡ l.bytes.items ++ guarantee_lines (drop l.number-index l.numbers)
