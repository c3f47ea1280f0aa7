use Rattle.annot_check.proofs.MarkLemmas.{MarkedUpTo}
use Rattle.annot_check.proofs.reads.mark_inputs.Given as goal

abbrev pub invariant-loop-input : goal.invariant-loop-input
invariant-loop-input l = MarkedUpTo l.circuit l.leads l.input-index
