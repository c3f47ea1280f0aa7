use Rattle.std.proofs.Common.{rules, ◌≡◌, ap, ◌∙◌, ◌-◌, ◌<◌, ◌≤◌, List, length, take, drop, sym, subst, arith}
use Rattle.std.specs.Prelude.{All}
use Rattle.std.proofs.lemmas.List.{take_rest}
use Rattle.std.proofs.lemmas.List.Elements.{All-drop, All-take}
use Rattle.machine_model.specs.Accepts.{Accepts}
use Rattle.machine_model.specs.Machine.{MachineModel, size_of}
use Rattle.machine_model.specs.Problem.{automaton_of}
use Rattle.machine_model.specs.Run.{IsRunLasso}
use Rattle.product_bound.specs.Product.{IsStepOf, letters_of, states_of_cycle, word_of_cycle}
use Rattle.machine_model.specs.declared.problems.Problem.{Problem}
use Rattle.product_bound.specs.declared.laws.ProductStep.{ProductStep}
use Rattle.product_bound.proofs.Cycle.{accepted, front_is, run, steps_within}
use Rattle.product_bound.proofs.laws.lasso_of_cycle.Goals as goal
use Rattle.product_bound.proofs.laws.lasso_of_cycle.Goals.{After-size-size, In-Ok}

some : (c : After-size-size) → 0 < size_of c.args.machine.now
some c =
    let size : 1 ≤ c.args.problem.now.size = c.requires.problem.some in
    rw c.requires.machine.size (omega arith)

steps : (c : After-size-size) → All (IsStepOf c.args.machine.now) (take (length c.args.path.now - 1) c.args.path.now)
steps c = steps_within c.args.problem.now c.args.machine.now c.args.path.now c.args.from c.size-size.ensures.kept.machine (some c) c.requires.cycle

pub letters_of-requires : goal.letters_of-requires
letters_of-requires c = All-take (IsStepOf c.args.machine.now) c.args.from (take (length c.args.path.now - 1) c.args.path.now) (steps (goal.at.letters_of-requires c).After-size-size)

pub letters_of-requires-2 : goal.letters_of-requires-2
letters_of-requires-2 c =
    let left : List ProductStep = take (length c.args.path.now - 1) c.args.path.now in
    All-take (IsStepOf c.args.machine.now) (length left - c.args.from) (drop c.args.from left) (All-drop (IsStepOf c.args.machine.now) c.args.from left (steps (goal.at.letters_of-requires-2 c).After-size-size))

word : (c : In-Ok) → c.in-Ok.word ≡ word_of_cycle c.args.problem.now c.args.machine.now c.args.path.now c.args.from
word c =
    let p : Problem = c.args.problem.now in
    let m : MachineModel = c.args.machine.now in
    let left : List ProductStep = take (length c.args.path.now - 1) c.args.path.now in
    let small : After-size-size = (goal.at.returns-clause-run c).After-size-size in
    let front : take c.args.from left ≡ take c.args.from c.args.path.now = front_is p m c.args.path.now c.args.from c.size-size.ensures.kept.machine (some small) c.requires.cycle in
    let stem : c.in_ok-stem.stem.items ≡ letters_of p m (take c.args.from c.args.path.now) = c.in_ok-stem.ensures ∙ ap (letters_of p m) front in
    let ring : c.in_ok-ring.ring.items ≡ letters_of p m (drop c.args.from left) = c.in_ok-ring.ensures ∙ ap (letters_of p m) (take_rest left c.args.from) in
    c.in-Ok.ensures.parts ∙ (λ i. record { stem = stem i; ring = ring i })

pub returns-clause-run : goal.returns-clause-run
returns-clause-run c =
    let states : c.in_ok-states.states.items ≡ states_of_cycle c.args.path.now = search rules in
    let small : After-size-size = (goal.at.returns-clause-run c).After-size-size in
    let is : IsRunLasso c.args.machine.now c.args.problem.now.side (word_of_cycle c.args.problem.now c.args.machine.now c.args.path.now c.args.from) (states_of_cycle c.args.path.now) = run c.args.problem.now c.args.machine.now c.args.path.now c.args.from c.size-size.ensures.kept.machine (some small) c.requires.cycle in
    subst (λ w. IsRunLasso c.args.machine.now c.args.problem.now.side w c.in_ok-states.states.items) (sym (word c)) (subst (λ ss. IsRunLasso c.args.machine.now c.args.problem.now.side (word_of_cycle c.args.problem.now c.args.machine.now c.args.path.now c.args.from) ss) (sym states) is)

pub returns-clause-accepted : goal.returns-clause-accepted
returns-clause-accepted c =
    let small : After-size-size = (goal.at.returns-clause-accepted c).After-size-size in
    let is : Accepts (automaton_of c.args.problem.now) (word_of_cycle c.args.problem.now c.args.machine.now c.args.path.now c.args.from) = accepted c.args.problem.now c.args.machine.now c.args.path.now c.args.from c.size-size.ensures.kept.machine (some small) c.requires.cycle in
    subst (λ w. Accepts (automaton_of c.args.problem.now) w) (sym (word c)) is
