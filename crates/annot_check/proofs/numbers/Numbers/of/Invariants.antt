use Rattle.std.proofs.Common.{take}
use Rattle.annot_check.specs.Numbers.{Knows, greatest_at}
use Rattle.annot_check.proofs.numbers.Numbers.of.Given as goal

abbrev pub invariant-loop-pair : goal.invariant-loop-pair
invariant-loop-pair l = Knows (greatest_at l.numbers) (take l.pair-index l.pairs)
