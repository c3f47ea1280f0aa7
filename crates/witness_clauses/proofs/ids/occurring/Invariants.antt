use Rattle.witness_clauses.proofs.Marking.{Lists}
use Rattle.witness_clauses.proofs.ids.occurring.Given as goal

abbrev pub invariant-loop-id : goal.invariant-loop-id
invariant-loop-id l = Lists l.formulas l.fn.form l.id l.ids.items l.marks.items
