use Rattle.std.proofs.Common.{length}
use Rattle.unit_propagate.proofs.ArenaLemmas.{index_fresh}
use Rattle.unit_propagate.proofs.arena.Arena.next.Goals as goal

pub returns-then-next-clause-fresh : goal.returns-then-next-clause-fresh
returns-then-next-clause-fresh c = rw (← c.self.view_is) (index_fresh (length c.self.inside.lits.items) c.self.inside.spans.items c.self.invariant.0.within)

pub returns-clause-fresh : goal.returns-clause-fresh
returns-clause-fresh c = rw (← c.self.view_is) (index_fresh (length c.self.inside.lits.items) c.self.inside.spans.items c.self.invariant.0.within)
