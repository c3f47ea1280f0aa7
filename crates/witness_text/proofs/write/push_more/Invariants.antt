use Rattle.std.proofs.Common.{◌≡◌, ◌++◌, take}
use Rattle.witness_text.specs.Shown.{with_spaces}
use Rattle.witness_text.proofs.write.push_more.Given as goal

abbrev pub invariant-loop-number : goal.invariant-loop-number
invariant-loop-number l = l.text.items ≡ l.fn.text.items ++ with_spaces (take l.number-index l.numbers)
