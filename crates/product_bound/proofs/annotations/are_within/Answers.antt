use Rattle.std.proofs.Common.{below_more}
use Rattle.product_bound.specs.Kept.{IsStateWithin}
use Rattle.product_bound.proofs.annotations.are_within.Goals as goal

pub loop-q-preserved : goal.loop-q-preserved
loop-q-preserved c = below_more (λ q. IsStateWithin c.args.problem.now c.args.numbers.now q) _ c.loop-q.invariant (c.is_state_within.ensures.0 c.if-not-is_state_within.false)
