use Rattle.std.proofs.Common.{arith}
use Rattle.unit_propagate.proofs.FalsifierLemmas.{later_step, last_none}
use Rattle.unit_propagate.proofs.propagator.last_falsified.Goals as goal

pub loop-lit-preserved : goal.loop-lit-preserved
loop-lit-preserved c =
    later_step c.args.marks.now.marks c.args.lits.now c.args.except c.lit-item.result c.loop-lit.lit-index c.loop-lit.last c.falsifier.result c.later-last.result (omega arith) c.lit-item.is
    c.loop-lit.invariant c.falsifier.ensures.some c.falsifier.ensures.none c.later-last.ensures.either c.later-last.ensures.none

pub returns-clause-none : goal.returns-clause-none
returns-clause-none c = last_none c.args.marks.now.marks c.args.lits.now c.args.except c.loop-lit.lit-index c.loop-lit.last (omega arith) c.loop-lit.invariant
