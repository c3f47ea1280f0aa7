use Rattle.conflict_learn.proofs.PlacesLemmas.{Gains-set}
use Rattle.conflict_learn.proofs.places.Places.add.Goals as goal

pub returns-clause-ok : goal.returns-clause-ok
returns-clause-ok c = rw (← c.self.view_is) (Gains-set c.self.inside.flags.items c.reach.new.flags.items c.args.place c.in_ok-reach.ensures.same c.in_ok-reach.ensures.within)
