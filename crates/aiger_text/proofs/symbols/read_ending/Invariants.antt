use Rattle.std.proofs.Common.{◌≡◌, ◌+◌, ◌≤◌, length}
use Rattle.aiger_text.specs.CircuitFile.{ending_from, lines_of}
use Rattle.aiger_text.specs.Labels.{named, HavePlaces}
use Rattle.aiger_text.proofs.symbols.read_ending.Given as goal

abbrev pub invariant-loop-line : goal.invariant-loop-line
invariant-loop-line l =
    (ending_from (named l.initial.labels) l.first (lines_of l.text) ≡ ending_from (named l.labels) l.number (lines_of l.rest))
    × (HavePlaces l.labels) × (l.number + length l.rest ≤ l.first + length l.text)

abbrev pub decreases-loop-line : goal.decreases-loop-line
decreases-loop-line l = length l.rest
