use Rattle.std.proofs.Common.{◌≡◌, ◌<◌, ap, ◌∙◌, subst}
use Rattle.std.specs.Slots.{slots_items}
use Rattle.atomic_table.specs.Table.{Final, Seen}
use Rattle.clause_exchange.specs.declared.views.Terms.{Terms}
use Rattle.clause_exchange.specs.SharedLog.{SharedLog}
use Rattle.clause_exchange.specs.Rule.{Keeps, terms_of}
use Rattle.clause_exchange.proofs.Closing.{some_pass, IsClosedLog, closed}
use Rattle.clause_exchange.proofs.exchange.Exchange.close.Goals as goal
use Rattle.clause_exchange.proofs.exchange.Exchange.close.Goals.{After-take-log}

is_closed : (c : After-take-log) → IsClosedLog c.args.self.terms c.args.passes.items c.take-log.result
is_closed c =
    let ws = slots_items c.close_with-closed.result.words in
    let values = slots_items c.close_with-closed.result.slots in
    let same : terms_of c.self.inside.table.shared.key ≡ c.args.self.terms = ap terms_of c.self.invariant.2 ∙ ap (λ (l : SharedLog). l.terms) c.self.view_is in
    closed c.args.self.terms c.gather-place.result.id c.gather-place.result.me.0 ws values c.args.passes.items c.take-log.result c.gather-place.ensures.rests c.gather-place.ensures.parts c.requires.each
    (subst (λ (t : Terms). Final (Seen (Keeps t) c.gather-place.result.id c.gather-place.result.me.0) ws values) same c.close_with-closed.ensures.values.2)
    c.take-log.ensures.value

pub gather-place-requires-clause-some : goal.gather-place-requires-clause-some
gather-place-requires-clause-some c =
    some_pass c.args.self.terms.seats c.args.passes.items (subst (λ (l : SharedLog). 0 < l.terms.seats) c.self.view_is c.self.invariant.3) c.requires.each

pub returns-clause-log : goal.returns-clause-log
returns-clause-log c = (is_closed (goal.at.returns-clause-log c).After-take-log).is_log

pub returns-clause-limit : goal.returns-clause-limit
returns-clause-limit c = (is_closed (goal.at.returns-clause-limit c).After-take-log).limit

pub returns-clause-passes : goal.returns-clause-passes
returns-clause-passes c = (is_closed (goal.at.returns-clause-passes c).After-take-log).holds
