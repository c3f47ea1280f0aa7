use Rattle.std.proofs.Common.{◌≡◌, ◌+◌, ◌≤◌, length}
use Rattle.aiger_text.specs.CircuitFile.{body_from, no_lines, lines_of}
use Rattle.aiger_text.specs.Statements.{stated, IsMarked}
use Rattle.aiger_text.specs.Sound.{IsSoundDraft, total}
use Rattle.aiger_text.proofs.bodies.read_body.Given as goal

abbrev pub invariant-loop-rest : goal.invariant-loop-rest
invariant-loop-rest l =
    (body_from (no_lines l.fn.counts) 2 (lines_of l.text) ≡ body_from (stated l.statements) l.number (lines_of l.rest))
    × (IsMarked l.statements) × (l.number + length l.rest ≤ length l.text + 2) × (IsSoundDraft (stated l.statements))
    × (l.statements.counts ≡ l.fn.counts) × (total (stated l.statements) ≤ l.number)

abbrev pub decreases-loop-rest : goal.decreases-loop-rest
decreases-loop-rest l = length l.rest
