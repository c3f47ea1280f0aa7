use Rattle.size_search.specs.Seat.{GoesOn}
use Rattle.size_search.proofs.tasks.SizeTask.finish.Given as goal

abbrev pub invariant-loop : goal.invariant-loop
invariant-loop g l = GoesOn l.fn.seat l.seat
