use Rattle.std.proofs.Common.{arith}
use Rattle.unit_propagate.proofs.StepLemmas.{false_all}
use Rattle.unit_propagate.proofs.propagator.open_literal.Goals as goal

pub returns-clause-none : goal.returns-clause-none
returns-clause-none c = false_all c.args.marks.now.marks c.args.lits.now c.loop-place.place (omega arith) c.loop-place.invariant
