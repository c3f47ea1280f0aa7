use Rattle.std.proofs.Common.{◌≡◌, ◌+◌, ◌-◌, [], ◌∷◌, length, refl, ap, ◌∙◌, arith, length-append}
use Rattle.synth_engine.proofs.PlanLemmas.{handed, racks_some, workers_push}
use Rattle.synth_engine.proofs.plans.Field.hand_out.Goals as goal

pub draw-requires : goal.draw-requires
draw-requires c =
    let test = c.loop-number-test.true in
    racks_some c.loop-number.number c.args.self.sizes.system.items c.loop-number.system.items (omega arith) c.loop-number.invariant.system

pub draw-requires-in-loop-number : goal.draw-requires-in-loop-number
draw-requires-in-loop-number c =
    let test = c.loop-number-test.true in
    racks_some c.loop-number.number c.args.self.sizes.environment.items c.loop-number.environment.items (omega arith) c.loop-number.invariant.environment

pub loop-number-preserved : goal.loop-number-preserved
loop-number-preserved c =
    let test = c.loop-number-test.true in
    let count : length c.loop-number.crews.items + c.loop-number.number ≡ c.args.settings.workers + 1 = c.loop-number.invariant.count in
    let before : c.loop-number.number ≡ c.loop-number.number - 1 + 1 = omega arith in
    let number : c.loop-number.number - 1 ≡ c.args.settings.workers - length c.loop-number.crews.items = omega arith in
    let later : length c.push.new.self.items ≡ length c.loop-number.crews.items + 1 = ap length c.in_ok-push.ensures.items ∙ length-append c.loop-number.crews.items (_ ∷ []) in
    let system = handed c.loop-number.number (c.loop-number.number - 1) c.args.self.sizes.system.items c.loop-number.system.items c.in_ok-of_system.rest_of_system.items c.in_ok-of_system.of_system.items before
    c.loop-number.invariant.system c.in_ok-of_system.ensures in
    let environment = handed c.loop-number.number (c.loop-number.number - 1) c.args.self.sizes.environment.items c.loop-number.environment.items c.in_ok-of_environment.rest_of_environment.items
    c.in_ok-of_environment.of_environment.items before c.loop-number.invariant.environment c.in_ok-of_environment.ensures in
    record {
      sizes = refl;
      count = omega arith;
      system = system.0;
      environment = environment.0;
      workers = workers_push c.args.self.sizes c.args.settings.workers c.loop-number.crews.items c.push.new.self.items _ c.loop-number.invariant.workers c.in_ok-push.ensures.items
          (record { system = system.1; environment = environment.1 }) number;
    }
