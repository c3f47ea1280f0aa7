use Rattle.std.proofs.Common.{map, length}
use Rattle.tlsf_reader.specs.Seen.{seen}
use Rattle.tlsf_reader.specs.Places.{RepeatedAmong}
use Rattle.tlsf_reader.proofs.Repeats.{Keeps}
use Rattle.tlsf_reader.proofs.repeat.repeated_among.Given as goal

abbrev pub invariant-loop-left : goal.invariant-loop-left
invariant-loop-left l = Keeps (RepeatedAmong l.fn.symbols (map seen l.fn.lexemes)) (RepeatedAmong l.left (map seen l.fn.lexemes)) l.found

abbrev pub decreases-loop-left : goal.decreases-loop-left
decreases-loop-left l = length l.left
