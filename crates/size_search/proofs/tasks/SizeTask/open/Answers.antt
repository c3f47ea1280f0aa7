use Rattle.std.proofs.Common.{subst}
use Rattle.machine_model.specs.Automaton.{IsAutomaton}
use Rattle.std.specs.Arc.{arc_value}
use Rattle.size_search.proofs.SeatLemmas.{fresh_numbers}
use Rattle.size_search.proofs.TaskLemmas.{opens}
use Rattle.size_search.proofs.tasks.SizeTask.open.Goals as goal

pub seats_of-requires-clause-numbers : goal.seats_of-requires-clause-numbers
seats_of-requires-clause-numbers c =
    let o = c.in_ok-opened.ensures in
    fresh_numbers c.in_ok-opened.opened.exchange c.in_ok-opened.opened.passes.items c.args.seats o.count o.passes

pub invariant_of-task : goal.invariant_of-task
invariant_of-task c =
    let e = c.in_ok-encode.ensures in
    let o = c.in_ok-opened.ensures in
    opens c.args.problem c.in_ok-opened.opened.exchange c.in_ok-encode.field-0 (arc_value c.in_ok-base.base) (arc_value c.in_ok-clone.field-0) c.args.limit c.args.seats c.requires.problem
    (subst IsAutomaton c.deref.ensures c.states-states.ensures.kept) e.vars e.clauses e.formula e.met c.in_ok-base.ensures.ok c.in_ok-clone.ensures.cases o.terms
