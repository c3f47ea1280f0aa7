use Rattle.std.proofs.Common.{◌-◌, arith}
use Rattle.conflict_learn.proofs.PlacesLemmas.{last_place, no_places}
use Rattle.conflict_learn.proofs.places.last_set.Goals as goal

pub returns-then-flags-end-clause-some : goal.returns-then-flags-end-clause-some
returns-then-flags-end-clause-some c = last_place c.args.flags.now c.loop-end.end (c.loop-end.end - 1) (omega (arith, c.loop-end-test.true)) c.if-flags-end.true c.loop-end.invariant.1

pub returns-clause-none : goal.returns-clause-none
returns-clause-none c = no_places c.args.flags.now c.loop-end.end (omega (arith, c.loop-end-test.false)) c.loop-end.invariant.1
