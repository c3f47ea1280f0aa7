use Rattle.unit_propagate.proofs.NumberedLemmas.{ArePlaces-rewatched, Rewatches-shown}
use Rattle.unit_propagate.proofs.watches.Watches.rewatch.Goals as goal

pub invariant_of-self-2 : goal.invariant_of-self-2
invariant_of-self-2 c =
    ArePlaces-rewatched c.self.inside.arena c.exchange.new.self c.self.inside.rows c.push.new.self c.self.inside.units.items c.code.result c.code-2.result c.args.i c.args.p c.args.j c.at-clause.result c.args.from c.args.to c.args.blocker
    c.code.ensures.value c.code-2.ensures.value c.at-clause.ensures c.in_ok-push.ensures.ok (rw (← c.self.view_is) at c.requires.there) c.exchange.ensures c.self.invariant

pub returns-clause-ok : goal.returns-clause-ok
returns-clause-ok c =
    rw (← c.self.view_is)
    (Rewatches-shown c.self.inside.arena c.exchange.new.self c.self.inside.rows c.push.new.self c.self.inside.units.items c.code.result c.code-2.result c.args.i c.args.p c.args.j c.at-clause.result c.args.from c.args.to c.args.blocker
    c.code.ensures.value c.code-2.ensures.value c.at-clause.ensures c.in_ok-push.ensures.ok (rw (← c.self.view_is) at c.requires.there) c.exchange.ensures)
