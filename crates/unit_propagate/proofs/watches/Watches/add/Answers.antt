use Rattle.unit_propagate.proofs.NumberedLemmas.{ArePlaces-added, Adds-shown}
use Rattle.unit_propagate.proofs.watches.Watches.add.Goals as goal

pub invariant_of-self-in_default-push_both : goal.invariant_of-self-in_default-push_both
invariant_of-self-in_default-push_both c =
    ArePlaces-added c.self.inside.arena c.push.new.self c.self.inside.rows c.push_both.new.self c.self.inside.units.items c.code.result c.code-2.result c.in-Some.clause c.args.lits.now c.args.first c.args.second
    c.in_ok-push.ensures.ok c.in_default-push_both.ensures.ok c.in-Some.ensures.value c.in-Some.ensures.fresh c.self.invariant

pub returns-clause-ok : goal.returns-clause-ok
returns-clause-ok c =
    rw (← c.self.view_is)
    (Adds-shown c.self.inside.arena c.push.new.self c.self.inside.rows c.push_both.new.self c.self.inside.units.items c.code.result c.code-2.result c.in-Some.clause c.args.lits.now c.args.first c.args.second
    c.in_ok-push.ensures.ok c.in_default-push_both.ensures.ok c.in-Some.ensures.value c.in-Some.ensures.fresh c.self.invariant
    c.in-Some.ensures.places c.code.ensures.value c.code-2.ensures.value)
