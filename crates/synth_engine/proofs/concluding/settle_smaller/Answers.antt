use Rattle.std.proofs.Common.{◌≡◌, ◌-◌, length, ap, subst}
use Rattle.machine_model.specs.Machine.{size_of}
use Rattle.machine_model.specs.declared.problems.Problem.{Problem}
use Rattle.synth_engine.specs.Outcomes.{IsFound, IsFoundWith}
use Rattle.synth_engine.specs.Tasks.{AreTasks}
use Rattle.synth_engine.specs.Settled.{FoundOrNot}
use Rattle.synth_engine.specs.Concluded.{IsLeft}
use Rattle.synth_engine.proofs.ConcludedLemmas.{found_with, pick, put, with_machine}
use Rattle.synth_engine.proofs.concluding.settle_smaller.Goals as goal

pub returns : goal.returns
returns g c = λ s e settings h.
    let side = c.args.found.side in
    let machine = c.args.found.machine in
    let smaller = c.in_ok-smaller.field-0 in
    let one = pick s e (λ (p : Problem). IsLeft side settings c.args.unsettled p × IsFound p settings machine) side h in
    let p = one.0 in
    let tasks : AreTasks p settings (length c.args.unsettled.tasks.items) c.args.unsettled.tasks.items = rw one.2.0.tasks.all one.2.0.tasks.each in
    let count : c.size.result - 1 ≡ size_of machine - 1 = ap (λ n. n - 1) c.size.ensures.value in
    let here : FoundOrNot p settings (size_of machine - 1) smaller.logs.items smaller.machine
    = subst (λ k. FoundOrNot p settings k smaller.logs.items smaller.machine) count (c.in_ok-smaller.ensures p settings tasks) in
    let with : IsFoundWith p settings c.unwrap_or-machine.result smaller.logs.items
    = rw c.unwrap_or-machine.ensures (found_with settings smaller.logs.items smaller.machine machine p here one.2.1) in
    with_machine s e settings (record { side = side; machine = c.unwrap_or-machine.result }) smaller.logs
    (put s e (λ (q : Problem). IsFoundWith q settings c.unwrap_or-machine.result smaller.logs.items) side p one.1 with)
