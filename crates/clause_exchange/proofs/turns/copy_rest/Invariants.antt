use Rattle.std.proofs.Common.{◌≡◌, take}
use Rattle.clause_exchange.proofs.turns.copy_rest.Given as goal

abbrev pub invariant-loop-i : goal.invariant-loop-i
invariant-loop-i l = l.into.items ≡ take l.i l.log.entries
