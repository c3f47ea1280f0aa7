use Rattle.std.proofs.Common.{◌++◌, Ok, length, ap, ◌∙◌}
use Rattle.refutation_log.specs.Entry.{clauses_of}
use Rattle.unit_propagate.specs.Trail.{literals_of}
use Rattle.clause_solver.specs.Worker.{IsSearching}
use Rattle.clause_solver.proofs.WorkLemmas.{all_quiet, searching_propagate, searching_assume, quiet_front, fewer_free}
use Rattle.clause_solver.proofs.search.Search.step.Goals as goal
use Rattle.clause_solver.proofs.search.Search.step.Goals.{After-propagate}

-- propagation keeps the search
propagated : (c : After-propagate) → IsSearching c.args.base.now.clauses.items c.args.seen.now c.propagate.new.self (length c.args.seen.now)
propagated c =
    searching_propagate c.args.base.now.clauses.items c.args.seen.now c.args.self.now.trail c.propagate.new.self c.requires.searching c.propagate.ensures.extends c.propagate.ensures.sound c.propagate.ensures.watching

pub returns-in_err-clause-clause-searching : goal.returns-in_err-clause-clause-searching
returns-in_err-clause-clause-searching c = propagated (goal.at.returns-in_err-clause-clause-searching c).After-propagate

pub lesson-requires-clause-quiet : goal.lesson-requires-clause-quiet
lesson-requires-clause-quiet c =
    all_quiet c.args.base.now.clauses.items c.args.seen.now c.propagate.new.self (propagated (goal.at.lesson-requires-clause-quiet c).After-propagate)

pub returns-in_err-entry-clause-searching : goal.returns-in_err-entry-clause-searching
returns-in_err-entry-clause-searching c = propagated (goal.at.returns-in_err-entry-clause-searching c).After-propagate

pub returns-in-Falsified-clause-searching : goal.returns-in-Falsified-clause-searching
returns-in-Falsified-clause-searching c = propagated (goal.at.returns-in-Falsified-clause-searching c).After-propagate

pub model_of-requires-clause-quiet : goal.model_of-requires-clause-quiet
model_of-requires-clause-quiet c =
    quiet_front c.args.base.now.clauses.items (clauses_of c.args.seen.now) (literals_of c.propagate.new.self.marks) (c.propagate.ensures.quiet (c.in_ok-clause.was ∙ ap Ok c.in_default.is))

pub returns-in_err-model-clause-searching : goal.returns-in_err-model-clause-searching
returns-in_err-model-clause-searching c = propagated (goal.at.returns-in_err-model-clause-searching c).After-propagate

pub returns-in_default-decision-clause-searching : goal.returns-in_default-decision-clause-searching
returns-in_default-decision-clause-searching c = propagated (goal.at.returns-in_default-decision-clause-searching c).After-propagate

pub returns-clause-searching : goal.returns-clause-searching
returns-clause-searching c =
    searching_assume c.args.base.now.clauses.items c.args.seen.now c.propagate.new.self c.assume.new.self c.in-Some.lit (propagated (goal.at.returns-clause-searching c).After-propagate)
    (c.propagate.ensures.quiet (c.in_ok-clause.was ∙ ap Ok c.in_default.is)) c.assume.ensures

pub returns-clause-fewer : goal.returns-clause-fewer
returns-clause-fewer c = λ _.
    fewer_free c.args.base.now.vars (c.args.base.now.clauses.items ++ clauses_of c.args.seen.now) c.args.self.now.trail c.propagate.new.self c.assume.new.self c.in-Some.lit _ c.propagate.ensures.extends
    c.in-Some.ensures.positive c.in-Some.ensures.some.0 c.in-Some.ensures.some.1 c.assume.ensures
