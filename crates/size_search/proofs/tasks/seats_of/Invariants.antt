use Rattle.std.proofs.Common.{◌≡◌, ◌++◌, length}
use Rattle.size_search.proofs.tasks.seats_of.Given as goal

abbrev pub invariant-loop-pass : goal.invariant-loop-pass
invariant-loop-pass l = (l.fn.passes.items ≡ l.seats.items ++ l.pass-iterator.rest.items) × (l.number ≡ length l.seats.items)
