use Rattle.std.proofs.Common.{below_more}
use Rattle.product_bound.specs.Kept.{KeepsLetters}
use Rattle.product_bound.proofs.annotations.keeps_states.Goals as goal

pub loop-t-preserved : goal.loop-t-preserved
loop-t-preserved c = below_more (λ t. KeepsLetters c.args.problem.now c.args.machine.now c.args.numbers.now t) _ c.loop-t.invariant (c.keeps_letters.ensures.0 c.if-not-keeps_letters.false)
