use Rattle.std.proofs.Common.{◌≡◌, ◌++◌, ℕ, List, length}
use Rattle.input_output.specs.Bytes.{Gains}
use Rattle.boundsyn_top.proofs.lines.put_lines.Given as goal

-- the lines so far were written and no fault occurred, and the others are left
abbrev pub invariant-loop-rest : goal.invariant-loop-rest
invariant-loop-rest g l =
    ((front : List ℕ) × (front ++ l.rest ≡ l.bytes) × Gains (g.K.Sink.written l.initial.out) (g.K.Sink.written l.out) front)
    × (g.K.Sink.faults l.out ≡ g.K.Sink.faults l.initial.out)

abbrev pub decreases-loop-rest : goal.decreases-loop-rest
decreases-loop-rest g l = length l.rest
