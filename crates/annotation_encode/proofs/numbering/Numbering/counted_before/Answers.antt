use Rattle.std.proofs.Common.{◌≡◌, ◌*◌, ◌≤◌, ap, ◌∙◌, sym, subst}
use Rattle.text_limits.specs.declared.TheConstants.{SMALL_LIMITS}
use Rattle.machine_model.specs.Automaton.{IsAutomaton}
use Rattle.machine_model.specs.Problem.{automaton_of}
use Rattle.machine_model.specs.declared.problems.Problem.{Problem}
use Rattle.annotation_encode.specs.Variables.{counted_before}
use Rattle.annotation_encode.proofs.Counted.{few_before, local_sum, whole_sum}
use Rattle.annotation_encode.proofs.numbering.Numbering.counted_before.Goals as goal
use Rattle.annotation_encode.proofs.numbering.Numbering.counted_before.Goals.{After-before-in-Some}

sum_is : (c : After-before-in-Some) → c.before-in-Some.result ≡ counted_before c.args.self.now.problem.now c.args.q
sum_is c =
    let p : Problem = c.args.self.now.problem.now in
    c.before-in-Some.ensures ∙ c.in-Some.ensures.right.before c.args.q c.requires.state ∙ sym (local_sum p c.args.q c.in-Some.ensures.local)

pub returns-in-Some-clause-value : goal.returns-in-Some-clause-value
returns-in-Some-clause-value c = sum_is c

pub returns-in-Some-clause-small : goal.returns-in-Some-clause-small
returns-in-Some-clause-small c =
    let p : Problem = c.args.self.now.problem.now in
    let made : IsAutomaton (automaton_of p) = subst IsAutomaton c.deref.ensures c.states-states.ensures.kept in
    subst (λ n. n ≤ SMALL_LIMITS.automaton.states * c.args.q) (sym (sum_is c)) (few_before p c.args.q c.components_are_classes.ensures made c.requires.problem.states)

pub returns-in-None-clause-value : goal.returns-in-None-clause-value
returns-in-None-clause-value c =
    let p : Problem = c.args.self.now.problem.now in
    ap (λ n. c.args.q * n) c.args.self.now.rejecting_is
    ∙ sym (whole_sum p c.args.q c.in-None.ensures.whole)
