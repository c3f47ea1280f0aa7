use Rattle.std.proofs.Common.{◌≡◌, map, length}
use Rattle.tlsf_reader.specs.Seen.{seen}
use Rattle.tlsf_reader.specs.Places.{first_brace}
use Rattle.tlsf_reader.proofs.repeat.first_brace.Given as goal

abbrev pub invariant-loop-left : goal.invariant-loop-left
invariant-loop-left l = first_brace (map seen l.fn.lexemes) ≡ first_brace (map seen l.left)

abbrev pub decreases-loop-left : goal.decreases-loop-left
decreases-loop-left l = length l.left
