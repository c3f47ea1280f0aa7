use Rattle.std.proofs.Common.{rules}
use Rattle.std.proofs.lemmas.List.Edits.{map_over_more}
use Rattle.unrealizable_core.specs.Shrink.{reopened}
use Rattle.unrealizable_core.proofs.shrink.reopen.Goals as goal

pub loop-standing-preserved : goal.loop-standing-preserved
loop-standing-preserved c = let h = c.reopened.ensures in let i = c.loop-standing.invariant in let j = c.loop-standing-test.true in search (rules, map_over_more reopened)
