use Rattle.std.proofs.Common.{◌≤◌, ◌∷◌, reverse}
use Rattle.tlsf_syntax.specs.Frames.{frame_number}
use Rattle.tlsf_syntax.proofs.Tracks.{Follows}
use Rattle.tlsf_syntax.proofs.nesting.first_too_deep.Given as goal

abbrev pub invariant-loop-i : goal.invariant-loop-i
invariant-loop-i l = record { follows : Follows l.symbols l.i (l.here ∷ reverse l.outer.items); low : frame_number l.here ≤ 128 }
