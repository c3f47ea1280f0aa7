use Rattle.std.proofs.Common.{◌≡◌, length}
use Rattle.std.specs.Prelude.{map}
use Rattle.aiger_text.proofs.Putting.{IsPut}
use Rattle.aiger_text.proofs.states.put_latches.Given as goal

abbrev pub invariant-loop-i : goal.invariant-loop-i
invariant-loop-i l = IsPut (map (λ latch. latch.literal) l.latches) l.bits l.fn.values l.values l.i × (length l.values ≡ length l.fn.values)
