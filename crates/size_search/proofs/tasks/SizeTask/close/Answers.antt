use Rattle.std.proofs.Common.{◌≡◌, List, All, sym, subst, ap, ◌∙◌}
use Rattle.std.specs.Arc.{arc_value}
use Rattle.clause_exchange.specs.SharedLog.{HoldsAllOf, IsLogOn, PassView}
use Rattle.clause_exchange.specs.declared.views.Terms.{Terms}
use Rattle.size_search.specs.Task.{SizeTaskModel, IsKeptTask}
use Rattle.size_search.proofs.TaskLemmas.{each_closes, holds_ended, none_accepted}
use Rattle.size_search.proofs.tasks.SizeTask.close.Goals as goal

pub close-requires-clause-each : goal.close-requires-clause-each
close-requires-clause-each c =
    each_closes c.self.inside.exchange.terms.seats c.args.self.exchange.terms.seats c.in_ok-passes.passes.items c.args.seats.items
    (ap (λ (t : SizeTaskModel). t.exchange.terms.seats) c.self.view_is) c.in_ok-passes.ensures c.requires.each

pub returns-clause-refutes : goal.returns-clause-refutes
returns-clause-refutes c =
    none_accepted c.args.self (arc_value c.self.inside.base) c.close.result.entries (subst (λ (t : SizeTaskModel). IsKeptTask t (arc_value c.self.inside.base)) c.self.view_is c.self.invariant)

pub returns-clause-ended : goal.returns-clause-ended
returns-clause-ended c k d lt =
    let all : All (HoldsAllOf c.close.result.entries) c.args.seats.items = subst (λ (l : List PassView). All (HoldsAllOf c.close.result.entries) l) c.in_ok-passes.ensures c.close.ensures.passes in
    let log : IsLogOn c.args.self.exchange.terms c.close.result.entries = subst (λ (t : SizeTaskModel). IsLogOn t.exchange.terms c.close.result.entries) c.self.view_is c.close.ensures.log in
    holds_ended c.args.self.exchange.terms c.close.result.entries _ log (all k d lt).seen
