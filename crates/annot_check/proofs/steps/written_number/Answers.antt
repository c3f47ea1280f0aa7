use Rattle.std.proofs.Common.{arith}
use Rattle.annot_check.proofs.StepLemmas.{small_number, whole_number}
use Rattle.annot_check.proofs.steps.written_number.Goals as goal

pub with_lowest-number-requires : goal.with_lowest-number-requires
with_lowest-number-requires c =
    let count = c.requires.count in
    let few = c.requires.few in
    small_number c.args.state.now.outputs _ c.loop-k.number (omega (arith, count, few)) c.loop-k.invariant

pub returns-clause-within : goal.returns-clause-within
returns-clause-within c =
    whole_number c.args.state.now.outputs c.loop-k.k c.loop-k.number c.args.outputs c.requires.count (omega arith) c.loop-k.invariant
