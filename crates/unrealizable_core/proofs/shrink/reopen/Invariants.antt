use Rattle.std.proofs.Common.{◌≡◌, ◌++◌, drop, map, take}
use Rattle.unrealizable_core.specs.Shrink.{reopened}
use Rattle.unrealizable_core.proofs.shrink.reopen.Given as goal

abbrev pub invariant-loop-standing : goal.invariant-loop-standing
invariant-loop-standing l = l.standing-items ≡ map reopened (take l.standing-index l.fn.standings.items) ++ drop l.standing-index l.fn.standings.items
