use Rattle.annot_check.proofs.MarkLemmas.{Growing}
use Rattle.annot_check.proofs.reads.mark_gates.Given as goal

abbrev pub invariant-loop-gate : goal.invariant-loop-gate
invariant-loop-gate l = Growing l.circuit l.fn.leads l.leads l.grown l.gate-index
