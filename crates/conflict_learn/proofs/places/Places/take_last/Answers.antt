use Rattle.conflict_learn.proofs.PlacesLemmas.{last_taken_as}
use Rattle.conflict_learn.proofs.places.Places.take_last.Goals as goal

pub returns-clause-some : goal.returns-clause-some
returns-clause-some c = last_taken_as c.self.inside.flags.items c.truncate.new.self.items c.args.self.now c.in_ok-place.place c.self.view_is c.in_ok-place.ensures.some c.truncate.ensures.items
