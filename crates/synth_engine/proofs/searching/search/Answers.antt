use Rattle.std.proofs.Common.{◌≡◌, ◌+◌, length, refl, sym, ◌∙◌, arith}
use Rattle.synth_engine.specs.Plans.{AreSizesOf, AreWorkersOf, IsWinner, named_of}
use Rattle.synth_engine.proofs.HandLemmas.{push_count}
use Rattle.synth_engine.proofs.PlanLemmas.{environment_crews, system_crews}
use Rattle.synth_engine.proofs.SearchLemmas.{all_left, environment_seats, plan_named, sizes_fit, system_seats, winner_is, winner_some, winner_within, workers_back, workers_pop}
use Rattle.synth_engine.proofs.searching.search.Goals as goal
use Rattle.synth_engine.proofs.searching.search.Goals.{In-Some, In_ok-of_system}

-- the plan's sizes, and its workers
sizes_are : (g : _) (c : In-Some g) → AreSizesOf c.new-plan.result c.args.settings c.in_ok-sizes.sizes
sizes_are g c = rw c.in_ok-sizes.ensures.sizes c.in_ok-field.ensures.sizes

workers_are : (g : _) (c : In-Some g) → AreWorkersOf c.in_ok-sizes.sizes c.args.settings.workers c.in_ok-sizes.crews.items
workers_are g c = rw c.in_ok-sizes.ensures.sizes c.in_ok-sizes.ensures.crews

pub new-plan-requires-clause-environment : goal.new-plan-requires-clause-environment
new-plan-requires-clause-environment g c p is = (c.requires.environment p is).within

pub open-requires-clause-environment : goal.open-requires-clause-environment
open-requires-clause-environment g c κs within = λ x is. (c.requires.environment x (sym c.new-plan.ensures.environment_is ∙ is)).within

pub run_workers-requires-clause-named : goal.run_workers-requires-clause-named
run_workers-requires-clause-named g c κs within =
    plan_named c.args.system c.args.environment c.args.settings.max c.new-plan.result c.new-plan.ensures c.requires.system c.requires.environment

pub run_workers-requires-clause-sizes : goal.run_workers-requires-clause-sizes
run_workers-requires-clause-sizes g c κs within =
    sizes_fit c.args.system c.args.environment c.args.settings.max c.args.settings c.new-plan.result c.in_ok-sizes.sizes c.new-plan.ensures (sizes_are g (goal.at.run_workers-requires-clause-sizes g c).In-Some)

pub run_workers-requires-clause-own : goal.run_workers-requires-clause-own
run_workers-requires-clause-own g c κs within =
    (workers_pop c.in_ok-sizes.sizes c.args.settings.workers c.in_ok-sizes.crews.items c.pop.new.self.items c.in-Some.own (workers_are g (goal.at.run_workers-requires-clause-own g c).In-Some) c.in-Some.ensures.items).1

pub run_workers-requires-clause-crews : goal.run_workers-requires-clause-crews
run_workers-requires-clause-crews g c κs within =
    (workers_pop c.in_ok-sizes.sizes c.args.settings.workers c.in_ok-sizes.crews.items c.pop.new.self.items c.in-Some.own (workers_are g (goal.at.run_workers-requires-clause-crews g c).In-Some) c.in-Some.ensures.items).0.seats

-- the workers with their seats, the caller last, when all came back
back_are : (g : _) (c : In_ok-of_system g) → AreWorkersOf c.in_ok-sizes.sizes c.args.settings.workers c.push.new.self.items
back_are g c =
    let popped : c.pop.new.self.len ≡ length c.pop.new.self.items = c.pop.new.self.ok.0 in
    let raced : c.in_ok-found.crews.len ≡ length c.in_ok-found.crews.items = c.in_ok-found.crews.ok.0 in
    let count = c.in_ok-found.ensures.count in
    workers_back c.in_ok-sizes.sizes c.args.settings.workers c.in_ok-sizes.crews.items c.pop.new.self.items c.in_ok-found.crews.items c.push.new.self.items c.in-Some.own c.run_workers.new.own
    (rw c.in_ok-sizes.ensures.sizes c.in_ok-sizes.ensures.crews) c.in-Some.ensures.items c.in_ok-found.ensures.crews (omega arith) (λ i d h. c.in_ok-found.ensures.numbers i d (omega arith)) c.in_ok-found.ensures.own
    c.in_ok-found.ensures.own_number c.in_ok-push.ensures.items

back_count : (g : _) (c : In_ok-of_system g) → length c.push.new.self.items ≡ c.args.settings.workers + 1
back_count g c =
    let popped : c.pop.new.self.len ≡ length c.pop.new.self.items = c.pop.new.self.ok.0 in
    let raced : c.in_ok-found.crews.len ≡ length c.in_ok-found.crews.items = c.in_ok-found.crews.ok.0 in
    let count = c.in_ok-found.ensures.count in
    let all : length c.in_ok-sizes.crews.items ≡ c.args.settings.workers + 1 = c.in_ok-sizes.ensures.count in
    let one : length c.in_ok-sizes.crews.items ≡ length c.pop.new.self.items + 1 = push_count c.in_ok-sizes.crews.items c.pop.new.self.items c.in-Some.own c.in-Some.ensures.items in
    let later : length c.push.new.self.items ≡ length c.in_ok-found.crews.items + 1 = push_count c.push.new.self.items c.in_ok-found.crews.items c.run_workers.new.own c.in_ok-push.ensures.items in
    omega arith

all_sizes : (g : _) (c : In_ok-of_system g) → AreSizesOf c.new-plan.result c.args.settings c.in_ok-sizes.sizes
all_sizes g c = rw c.in_ok-sizes.ensures.sizes c.in_ok-field.ensures.sizes

pub conclude-requires-clause-system : goal.conclude-requires-clause-system
conclude-requires-clause-system g c =
    let at = (goal.at.conclude-requires-clause-system g c).In_ok-of_system in
    system_seats c.new-plan.result c.args.settings c.in_ok-sizes.sizes c.push.new.self.items _ (all_sizes g at) (back_count g at)
    (system_crews c.in_ok-sizes.sizes c.args.settings.workers c.push.new.self.items (back_are g at)) refl c.in_ok-of_system.ensures.system

pub conclude-requires-clause-environment : goal.conclude-requires-clause-environment
conclude-requires-clause-environment g c =
    let at = (goal.at.conclude-requires-clause-environment g c).In_ok-of_system in
    environment_seats c.new-plan.result c.args.settings c.in_ok-sizes.sizes c.push.new.self.items _ (all_sizes g at) (back_count g at)
    (environment_crews c.in_ok-sizes.sizes c.args.settings.workers c.push.new.self.items (back_are g at)) refl c.in_ok-of_system.ensures.environment

pub conclude-requires-clause-found : goal.conclude-requires-clause-found
conclude-requires-clause-found g c = λ w is.
    let at = (goal.at.conclude-requires-clause-found g c).In_ok-of_system in
    let winner : IsWinner (named_of c.new-plan.result) w = rw is at c.in_ok-found.ensures.winner in
    let within = winner_within c.args.system c.args.environment c.args.settings.max c.args.settings c.new-plan.result c.in_ok-sizes.sizes w c.new-plan.ensures (all_sizes g at) winner in
    (winner_some (named_of c.new-plan.result) w winner, within.0, within.1)

pub returns : goal.returns
returns g c =
    c.conclude.ensures c.args.system c.args.environment c.args.settings
    (all_left c.args.system c.args.environment c.args.settings c.new-plan.result c.in_ok-sizes.sizes _ _ c.new-plan.ensures (rw c.in_ok-sizes.ensures.sizes c.in_ok-field.ensures.sizes) c.requires.system
    c.requires.environment refl refl)
    (winner_is c.args.system c.args.environment c.args.settings c.new-plan.result c.in_ok-found.found c.new-plan.ensures c.in_ok-found.ensures.winner)
