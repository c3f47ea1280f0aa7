use Rattle.std.proofs.Common.{map, length}
use Rattle.tlsf_reader.specs.Seen.{seen}
use Rattle.tlsf_reader.proofs.Repeats.{SameRepeated}
use Rattle.tlsf_reader.proofs.repeat.repetition.Given as goal

abbrev pub invariant-loop-left : goal.invariant-loop-left
invariant-loop-left l = SameRepeated l.fn.symbol (map seen l.fn.lexemes) (map seen l.left)

abbrev pub decreases-loop-left : goal.decreases-loop-left
decreases-loop-left l = length l.left
