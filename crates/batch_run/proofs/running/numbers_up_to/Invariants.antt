use Rattle.std.proofs.Common.{◌≡◌}
use Rattle.batch_run.specs.Claims.{places_from}
use Rattle.batch_run.proofs.running.numbers_up_to.Given as goal

abbrev pub invariant-loop-number : goal.invariant-loop-number
invariant-loop-number l = l.numbers.items ≡ places_from 1 l.number
