use Rattle.std.proofs.Common.{map, length}
use Rattle.tlsf_reader.specs.Seen.{seen}
use Rattle.tlsf_reader.specs.Places.{OccursAt}
use Rattle.tlsf_reader.proofs.Repeats.{Keeps}
use Rattle.tlsf_reader.proofs.repeat.occurrence.Given as goal

abbrev pub invariant-loop-left : goal.invariant-loop-left
invariant-loop-left l = Keeps (OccursAt l.fn.symbol (map seen l.fn.lexemes)) (OccursAt l.fn.symbol (map seen l.left)) l.found

abbrev pub decreases-loop-left : goal.decreases-loop-left
decreases-loop-left l = length l.left
