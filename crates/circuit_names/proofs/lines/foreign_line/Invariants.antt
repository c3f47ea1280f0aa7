use Rattle.std.proofs.Common.{◌≡◌, ◌+◌, ◌≤◌, length}
use Rattle.aiger_text.specs.CircuitFile.{lines_of}
use Rattle.circuit_names.specs.Lines.{foreign_line}
use Rattle.circuit_names.specs.Names.{names_of}
use Rattle.circuit_names.proofs.lines.foreign_line.Given as goal

-- nothing was found so far, and the lines so far are bytes
abbrev pub invariant-loop-line : goal.invariant-loop-line
invariant-loop-line l = (foreign_line (names_of l.names) l.n (lines_of l.rest) ≡ foreign_line (names_of l.names) 2 (lines_of l.bytes)) × (l.n + length l.rest ≤ 2 + length l.bytes)

abbrev pub decreases-loop-line : goal.decreases-loop-line
decreases-loop-line l = length l.rest
