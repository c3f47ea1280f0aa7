use Rattle.std.proofs.Common.{◌≡◌, ◌++◌, take, decimal}
use Rattle.aiger_text.proofs.Lines.{with_spaces}
use Rattle.document_text.proofs.write.push_numbers.Given as goal

abbrev pub invariant-loop-number : goal.invariant-loop-number
invariant-loop-number l = l.text.items ≡ l.fn.text.items ++ (decimal l.first ++ with_spaces (take l.number-index l.others))
