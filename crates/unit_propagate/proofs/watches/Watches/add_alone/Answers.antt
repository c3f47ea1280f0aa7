use Rattle.std.proofs.Common.{rules}
use Rattle.unit_propagate.proofs.NumberedLemmas.{ArePlaces-grown, AddsAlone-shown}
use Rattle.unit_propagate.proofs.watches.Watches.add_alone.Goals as goal

pub invariant_of-self-2 : goal.invariant_of-self-2
invariant_of-self-2 c =
    ArePlaces-grown c.self.inside.arena.starts c.push_alone.new.self.starts c.self.inside.arena.next c.in_ok-push_alone.ensures.ok.starts c.self.inside.rows c.self.invariant

pub returns-clause-ok : goal.returns-clause-ok
returns-clause-ok c =
    rw (← c.self.view_is)
    (AddsAlone-shown c.self.inside.arena c.push_alone.new.self c.self.inside.rows c.self.inside.units.items c.push.new.self.items c.args.lit c.len-k.result c.in_ok-push_alone.ensures.ok c.self.invariant (search rules) c.len-k.ensures.value)
