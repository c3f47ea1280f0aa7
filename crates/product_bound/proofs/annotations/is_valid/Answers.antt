use Rattle.std.proofs.Common.{◌≡◌, ◌<◌, ◌≤◌, ◌∙◌, true, sym, subst, arith}
use Rattle.std.proofs.lemmas.Bool.{true≢false}
use Rattle.machine_model.specs.Automaton.{IsAutomaton}
use Rattle.machine_model.specs.Machine.{size_of}
use Rattle.machine_model.specs.Problem.{automaton_of}
use Rattle.machine_model.specs.declared.problems.Problem.{Problem}
use Rattle.product_bound.specs.Annotation.{HasNumber, IsValidAnnotation, start_number}
use Rattle.product_bound.specs.Kept.{AreWithin, KeepsStates}
use Rattle.product_bound.proofs.KeptLemmas.{states_say, valid_of, within_says}
use Rattle.product_bound.proofs.Valid.{never_accepted}
use Rattle.product_bound.proofs.annotations.is_valid.Goals as goal
use Rattle.product_bound.proofs.annotations.is_valid.Goals.{After-keeps_states}

pub returns-then-not-are_within-clause-rule : goal.returns-then-not-are_within-clause-rule
returns-then-not-are_within-clause-rule c =
    let made : IsAutomaton (automaton_of c.args.problem.now) = subst IsAutomaton c.deref.ensures c.states-states.ensures.kept in
    let within : IsValidAnnotation c.args.problem.now c.args.machine.now c.args.annotation.now.numbers.items → AreWithin c.args.problem.now c.args.annotation.now.numbers.items = within_says c.args.problem.now c.args.machine.now c.args.annotation.now.numbers.items made in (
      λ never. absurd (true≢false (sym never)),
      λ valid. absurd (true≢false (sym (c.are_within.ensures.1 (rw c.as_slice-numbers.ensures.value (within valid))) ∙ c.if-not-are_within.true)),
    )

made : (c : After-keeps_states) → IsAutomaton (automaton_of c.args.problem.now)
made c = subst IsAutomaton c.deref.ensures c.states-states.ensures.kept

valid : (c : After-keeps_states) → c.keeps_states.result ≡ true → IsValidAnnotation c.args.problem.now c.args.machine.now c.args.annotation.now.numbers.items
valid c h =
    let p : Problem = c.args.problem.now in
    let within : AreWithin p c.args.annotation.now.numbers.items = subst (AreWithin p) c.as_slice-numbers.ensures.value (c.are_within.ensures.0 c.if-not-are_within.false) in
    let start : HasNumber p c.args.annotation.now.numbers.items 0 0 (start_number p) = subst (λ ns. HasNumber p ns 0 0 (start_number p)) c.as_slice-numbers.ensures.value (c.starts_high_enough.ensures.0 c.if-not-starts_high_enough.false) in
    let kept : KeepsStates p c.args.machine.now c.args.annotation.now.numbers.items = subst (λ ns. KeepsStates p c.args.machine.now ns) c.as_slice-numbers.ensures.value (c.keeps_states.ensures.0 h) in
    valid_of p c.args.machine.now c.args.annotation.now.numbers.items (made c) within start kept

pub returns-clause-rule : goal.returns-clause-rule
returns-clause-rule c = (
  valid c,
  λ is. c.keeps_states.ensures.1 (subst (λ ns. KeepsStates c.args.problem.now c.args.machine.now ns) (sym c.as_slice-numbers.ensures.value) (states_say c.args.problem.now c.args.machine.now c.args.annotation.now.numbers.items (made c) is)),
)

pub returns-clause-accepted : goal.returns-clause-accepted
returns-clause-accepted c = λ h w run.
    let size : 1 ≤ c.args.problem.now.size = c.requires.problem.some in
    let some : 0 < size_of c.args.machine.now = rw c.requires.machine.size (omega arith) in
    never_accepted c.args.problem.now c.args.machine.now c.args.annotation.now.numbers.items w run.0 c.joined_is_reached.ensures (made c) c.size-size.ensures.kept.machine c.requires.machine some (valid c h) run.1
