use Rattle.std.proofs.Common.{◌≡◌, ◌<◌, ℕ, length, get_or, false}
use Rattle.aiger_text.specs.Circuit.{literal_value}
use Rattle.aiger_text.specs.Values.{valuation}
use Rattle.aiger_text.proofs.Putting.{no_latch}
use Rattle.aiger_text.proofs.states.take_latches.Given as goal

abbrev pub invariant-loop-i : goal.invariant-loop-i
invariant-loop-i l = ((k : ℕ) → k < l.i → get_or l.bits k false ≡ literal_value (valuation l.values) (get_or l.latches k no_latch).next) × (length l.bits ≡ length l.fn.bits)
