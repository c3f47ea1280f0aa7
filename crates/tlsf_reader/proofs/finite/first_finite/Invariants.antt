use Rattle.std.proofs.Common.{map, length}
use Rattle.tlsf_reader.specs.Seen.{seen}
use Rattle.tlsf_reader.proofs.FirstFinite.{Keeps}
use Rattle.tlsf_reader.proofs.finite.first_finite.Given as goal

-- the least place so far, and the least one of those that are left, are the least of all
abbrev pub invariant-loop-left : goal.invariant-loop-left
invariant-loop-left l = Keeps (map seen l.fn.lexemes) (map seen l.left) l.found

abbrev pub decreases-loop-left : goal.decreases-loop-left
decreases-loop-left l = length l.left
