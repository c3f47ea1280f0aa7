use Rattle.std.proofs.Common.{◌≡◌, ◌+◌, ℕ, List, map}
use Rattle.std.specs.Prelude.{Result, Ok, Err, IfOk}
use Rattle.std.specs.List.{AllZip}
use Rattle.machine_model.specs.declared.problems.Problem.{Problem}
use Rattle.size_search.specs.declared.tasks.Opened.{Opened}
use Rattle.synth_engine.specs.declared.settings.Settings.{Settings}
use Rattle.synth_engine.specs.declared.plans.OpenedSizes.{OpenedSizes}
use Rattle.synth_engine.specs.Hands.{AreRacks}
use Rattle.synth_engine.specs.Plans.{AreProblemsDown, AreTasksUpTo, IsOpenedFor}
use Rattle.synth_engine.proofs.PlanLemmas.{problems_are, racks_of, tasks_up_to}
use Rattle.synth_engine.proofs.plans.open_sizes.Goals as goal

tasks_are : {E : Type 0} (p : Problem) (settings : Settings) (count : ℕ) (ps : List Problem) (os : List Opened) (r : Result OpenedSizes E) → AreProblemsDown p count ps → AllZip (IsOpenedFor settings) ps os
    → IfOk r (λ o. o.tasks.items ≡ map (λ x. x.task) os) → IfOk r (λ o. AreTasksUpTo p settings count o.tasks.items)
tasks_are p settings count ps os (Ok o) down all is = tasks_up_to p settings count ps os o.tasks.items down all is
tasks_are p settings count ps os (Err e) down all is = tt

seats_are : {E : Type 0} (settings : Settings) (ps : List Problem) (os : List Opened) (r : Result OpenedSizes E) → AllZip (IsOpenedFor settings) ps os → IfOk r (λ o. o.tasks.items ≡ map (λ x. x.task) os)
    → IfOk r (λ o. o.seats.items ≡ map (λ x. x.seats) os) → IfOk r (λ o. AreRacks (settings.workers + 1) o.tasks.items o.seats.items)
seats_are settings ps os (Ok o) all tasks seats = racks_of settings ps os o.tasks.items o.seats.items all tasks seats
seats_are settings ps os (Err e) all tasks seats = tt

pub open_all-requires-clause-problems : goal.open_all-requires-clause-problems
open_all-requires-clause-problems g c κs within =
    problems_are c.args.problem.now c.args.count c.in_ok-problems.problems.items c.requires.problem c.requires.count c.in_ok-problems.ensures

pub returns-clause-tasks : goal.returns-clause-tasks
returns-clause-tasks g c =
    tasks_are c.args.problem.now c.args.settings c.args.count c.in_ok-problems.problems.items c.in_ok-opened.opened.items c.by_parts.result c.in_ok-problems.ensures c.in_ok-opened.ensures c.by_parts.ensures.tasks

pub returns-clause-seats : goal.returns-clause-seats
returns-clause-seats g c =
    seats_are c.args.settings c.in_ok-problems.problems.items c.in_ok-opened.opened.items c.by_parts.result c.in_ok-opened.ensures c.by_parts.ensures.tasks c.by_parts.ensures.seats
