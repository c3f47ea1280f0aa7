use Rattle.std.proofs.Common.{◌≡◌, ◌++◌, take, decimal}
use Rattle.witness_text.specs.Shown.{with_spaces}
use Rattle.witness_text.proofs.write.push_some.Given as goal

abbrev pub invariant-loop-number : goal.invariant-loop-number
invariant-loop-number l = l.text.items ≡ l.fn.text.items ++ (decimal l.first ++ with_spaces (take l.number-index l.others))
