use Rattle.std.proofs.Common.{◌≡◌, ◌++◌, take, decimal}
use Rattle.solved_text.proofs.WriteLemmas.{with_commas}
use Rattle.solved_text.proofs.write.push_numbers.Given as goal

abbrev pub invariant-loop-number : goal.invariant-loop-number
invariant-loop-number l = l.text.items ≡ l.fn.text.items ++ (decimal l.first ++ with_commas (take l.number-index l.others))
