use Rattle.std.proofs.Common.{◌≡◌, ◌<◌, ℕ, get_or, not, false}
use Rattle.aiger_text.specs.CircuitFile.{is_known}
use Rattle.aiger_text.specs.Statements.{stated}
use Rattle.aiger_text.proofs.Putting.{no_latch}
use Rattle.aiger_text.proofs.bodies.Statements.unknown_latch.Given as goal

abbrev pub invariant-loop-place : goal.invariant-loop-place
invariant-loop-place l = (k : ℕ) → k < l.place → not (is_known (stated l.self) (get_or l.self.latches.items k no_latch).next) ≡ false
