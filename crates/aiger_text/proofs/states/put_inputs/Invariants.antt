use Rattle.std.proofs.Common.{◌≡◌, length}
use Rattle.aiger_text.proofs.Putting.{IsPut}
use Rattle.aiger_text.proofs.states.put_inputs.Given as goal

abbrev pub invariant-loop-i : goal.invariant-loop-i
invariant-loop-i l = IsPut l.literals l.bits l.fn.values l.values l.i × (length l.values ≡ length l.fn.values)
