use Rattle.std.proofs.Common.{◌≡◌, ℕ, ◌-◌, ◌<◌, [], ◌∷◌, length, ◌+◌, ◌∙◌, ap, arith, length-append}
use Rattle.synth_engine.specs.Tasks.{IsTaskOf}
use Rattle.synth_engine.proofs.SettledLemmas.{found_after, log_is_settled, place_is, settled_more, tasks_pop}
use Rattle.synth_engine.proofs.settling.Unsettled.settle.Goals as goal

pub returns-in-Machine : goal.returns-in-Machine
returns-in-Machine g c = λ p settings are.
    let top : ℕ = length c.args.self.tasks.items in
    let known = c.loop.invariant.settled p settings are in
    let task = c.in_ok-answer.ensures.task in
    let one = tasks_pop p settings top c.loop.left.tasks.items c.in_ok-answer.rest.tasks.items task.0 task.1 known.0 in
    let n : length c.loop.left.tasks.items ≡ length c.in_ok-answer.rest.tasks.items + 1 = ap length task.1 ∙ length-append c.in_ok-answer.rest.tasks.items (task.0 ∷ []) in
    let left : length c.loop.left.tasks.items + c.loop.counter ≡ top = c.loop.invariant.left in
    let below : c.loop.counter < c.args.count = c.loop-test.true in
    found_after p settings c.args.count (top - length c.in_ok-answer.rest.tasks.items) c.loop.logs.items task.0 c.in-Machine.machine one.1 (rw c.in-Machine.is at task.2) (omega arith)
    (rw (let e : top - length c.in_ok-answer.rest.tasks.items - 1 ≡ c.loop.counter = omega arith in e) known.1)

pub loop-preserved : goal.loop-preserved
loop-preserved g c =
    let top : ℕ = length c.args.self.tasks.items in
    let task = c.in_ok-answer.ensures.task in
    let n : length c.loop.left.tasks.items ≡ length c.in_ok-answer.rest.tasks.items + 1 = ap length task.1 ∙ length-append c.in_ok-answer.rest.tasks.items (task.0 ∷ []) in
    let left : length c.loop.left.tasks.items + c.loop.counter ≡ top = c.loop.invariant.left in
    record {
      seats = c.in_ok-answer.ensures.seats;
      left = omega arith;
      settled = λ p settings are.
          let known = c.loop.invariant.settled p settings are in
          let one = tasks_pop p settings top c.loop.left.tasks.items c.in_ok-answer.rest.tasks.items task.0 task.1 known.0 in
          let e : top - length c.in_ok-answer.rest.tasks.items ≡ c.loop.counter + 1 = omega arith in
          let at : IsTaskOf p settings (c.loop.counter + 1) task.0 = rw e at one.1 in
          let answer = rw c.in-Log.is at task.2 in (
            one.0,
            settled_more p settings c.loop.counter c.loop.logs.items c.push.new.self.items c.in-Log.log known.1 c.in_ok-push-in-Log.ensures.items
                (place_is p settings task.0 c.in-Log.log (c.loop.counter + 1) at answer) (log_is_settled p settings task.0 c.in-Log.log (c.loop.counter + 1) at answer),
          );
    }

pub returns : goal.returns
returns g c = λ p settings are.
    let known = c.loop.invariant.settled p settings are in
    let a = c.loop.auto.counter-end in
    let b = c.loop-test.false in
    rw (let e : c.args.count ≡ c.loop.counter = omega arith in e) known.1
