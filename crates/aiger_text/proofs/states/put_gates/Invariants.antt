use Rattle.aiger_text.proofs.Gates.{AreSettled}
use Rattle.aiger_text.proofs.states.put_gates.Given as goal

abbrev pub invariant-loop-place : goal.invariant-loop-place
invariant-loop-place l = AreSettled l.gates l.order l.fn.values l.values l.place-index
