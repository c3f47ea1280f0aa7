use Rattle.annot_check.specs.Marks.{AreSound, unmarked}
use Rattle.annot_check.proofs.reads.first_by_input.Given as goal

abbrev pub invariant-loop : goal.invariant-loop
invariant-loop l = AreSound l.circuit l.leads.items

abbrev pub decreases-loop : goal.decreases-loop
decreases-loop l = unmarked l.leads.items
