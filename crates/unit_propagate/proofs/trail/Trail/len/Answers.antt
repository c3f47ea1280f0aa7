use Rattle.unit_propagate.proofs.LookedLemmas.{looked_at}
use Rattle.unit_propagate.proofs.trail.Trail.len.Goals as goal

pub returns-clause-looked : goal.returns-clause-looked
returns-clause-looked c = rw (← c.self.view_is) (looked_at c.self.inside.state c.self.invariant)
