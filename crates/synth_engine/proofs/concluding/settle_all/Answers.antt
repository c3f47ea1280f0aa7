use Rattle.std.proofs.Common.{◌≡◌, length, subst, arith}
use Rattle.std.specs.Prelude.{Option, Some, None}
use Rattle.machine_model.specs.declared.problems.Problem.{Problem}
use Rattle.annotation_encode.specs.Count.{allowed_sizes}
use Rattle.letters_and_lassos.specs.declared.kinds.Side.TheVariants.{System, Environment}
use Rattle.synth_engine.specs.declared.settings.Settings.{Settings}
use Rattle.synth_engine.specs.Tasks.{AreTasks}
use Rattle.synth_engine.specs.Settled.{FoundOrNot}
use Rattle.synth_engine.specs.Concluded.{AreLeft}
use Rattle.synth_engine.proofs.ConcludedLemmas.{all_settled, environment_found, environment_settled, found_below, none_below, with_machine, without_machine}
use Rattle.synth_engine.proofs.PlanLemmas.{tasks_of_none}
use Rattle.synth_engine.proofs.concluding.settle_all.Goals as goal
use Rattle.synth_engine.proofs.concluding.settle_all.Goals.{In_ok-machine, In_ok-of_environment}

system_here : (g : _) (c : In_ok-machine g) (s : Problem) (e : Option Problem) (settings : Settings) → AreLeft s e settings c.args.system c.args.environment
    → FoundOrNot s settings (allowed_sizes s settings.max) c.in_ok-machine.field-0.logs.items c.in_ok-machine.field-0.machine
system_here g c s e settings left =
    let tasks : AreTasks s settings (length c.args.system.tasks.items) c.args.system.tasks.items = rw left.of_system.tasks.all left.of_system.tasks.each in
    let all : length c.args.system.tasks.items ≡ allowed_sizes s settings.max = left.of_system.tasks.all in
    let len = c.len-all.ensures in
    let ok = c.args.system.tasks.ok.0 in
    let count : c.len-all.result ≡ allowed_sizes s settings.max = omega arith in
    subst (λ k. FoundOrNot s settings k c.in_ok-machine.field-0.logs.items c.in_ok-machine.field-0.machine) count (c.in_ok-machine.ensures s settings tasks)

environment_here : (g : _) (c : In_ok-of_environment g) (s : Problem) (e : Option Problem) (settings : Settings) → AreLeft s e settings c.args.system c.args.environment → (p : Problem) → e ≡ Some p
    → (p.side ≡ Environment) × FoundOrNot p settings (allowed_sizes p settings.max) c.in_ok-of_environment.of_environment.logs.items c.in_ok-of_environment.of_environment.machine
environment_here g c s e settings left p is =
    let here = left.of_environment p is in
    let tasks : AreTasks p settings (length c.args.environment.tasks.items) c.args.environment.tasks.items = rw here.tasks.all here.tasks.each in
    let all : length c.args.environment.tasks.items ≡ allowed_sizes p settings.max = here.tasks.all in
    let len = c.len-all-2.ensures in
    let ok = c.args.environment.tasks.ok.0 in
    let count : c.len-all-2.result ≡ allowed_sizes p settings.max = omega arith in
    (here.of_side, subst (λ k. FoundOrNot p settings k c.in_ok-of_environment.of_environment.logs.items c.in_ok-of_environment.of_environment.machine) count (c.in_ok-of_environment.ensures p settings tasks))

nothing_here : (g : _) (c : In_ok-of_environment g) (s : Problem) (e : Option Problem) (settings : Settings) → AreLeft s e settings c.args.system c.args.environment → e ≡ None
    → FoundOrNot s settings 0 c.in_ok-of_environment.of_environment.logs.items c.in_ok-of_environment.of_environment.machine
nothing_here g c s e settings left is =
    let none : length c.args.environment.tasks.items ≡ 0 = left.none is in
    let len = c.len-all-2.ensures in
    let ok = c.args.environment.tasks.ok.0 in
    let count : c.len-all-2.result ≡ 0 = omega arith in
    subst (λ k. FoundOrNot s settings k c.in_ok-of_environment.of_environment.logs.items c.in_ok-of_environment.of_environment.machine) count
    (c.in_ok-of_environment.ensures s settings (tasks_of_none s settings c.args.environment.tasks.items none))

pub returns-in-Some : goal.returns-in-Some
returns-in-Some g c = λ s e settings left.
    let here = system_here g (goal.at.returns-in-Some g c).In_ok-machine s e settings left in
    with_machine s e settings (record { side = System; machine = c.in-Some.machine }) c.in_ok-machine.field-0.logs
    (found_below settings (allowed_sizes s settings.max) c.in_ok-machine.field-0.logs.items c.in_ok-machine.field-0.machine c.in-Some.machine s here c.in-Some.is (omega arith))

pub returns-in-Some-machine : goal.returns-in-Some-machine
returns-in-Some-machine g c = λ s e settings left.
    let at = (goal.at.returns-in-Some-machine g c).In_ok-of_environment in
    with_machine s e settings (record { side = Environment; machine = c.in-Some-machine.machine }) c.in_ok-of_environment.of_environment.logs
    (environment_found s e settings c.in_ok-of_environment.of_environment.logs.items c.in_ok-of_environment.of_environment.machine c.in-Some-machine.machine c.in-Some-machine.is
    (environment_here g at s e settings left) (nothing_here g at s e settings left))

pub returns : goal.returns
returns g c = λ s e settings left.
    let at = (goal.at.returns g c).In_ok-of_environment in
    let here = system_here g (goal.at.returns g c).In_ok-machine s e settings left in
    let of_system = none_below settings (allowed_sizes s settings.max) c.in_ok-machine.field-0.logs.items c.in_ok-machine.field-0.machine s here c.in_default.not-Some in
    let of_environment = environment_settled s e settings c.in_ok-of_environment.of_environment.logs.items c.in_ok-of_environment.of_environment.machine c.in_default-machine.not-Some
    (environment_here g at s e settings left) (nothing_here g at s e settings left) in
    without_machine s e settings c.append.new.self
    (all_settled s e settings c.in_ok-machine.field-0.logs.items c.in_ok-of_environment.of_environment.logs.items c.append.new.self.items left.of_system.of_side of_system of_environment
    c.in_ok-append.ensures.items)
