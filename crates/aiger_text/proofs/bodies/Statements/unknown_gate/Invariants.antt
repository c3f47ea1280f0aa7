use Rattle.std.proofs.Common.{◌≡◌, ◌<◌, ◌&&◌, ℕ, get_or, not, false}
use Rattle.aiger_text.specs.CircuitFile.{is_known}
use Rattle.aiger_text.specs.Statements.{stated}
use Rattle.aiger_text.proofs.Gates.{no_gate}
use Rattle.aiger_text.proofs.bodies.Statements.unknown_gate.Given as goal

abbrev pub invariant-loop-place : goal.invariant-loop-place
invariant-loop-place l = (k : ℕ) → k < l.place → not (is_known (stated l.self) (get_or l.self.gates.items k no_gate).left && is_known (stated l.self) (get_or l.self.gates.items k no_gate).right) ≡ false
