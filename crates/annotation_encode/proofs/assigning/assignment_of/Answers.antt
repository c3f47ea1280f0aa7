use Rattle.std.proofs.Common.{◌≡◌, true, sym, subst, rules}
use Rattle.propositional_logic.specs.Truth.{meets}
use Rattle.machine_model.specs.Automaton.{IsAutomaton}
use Rattle.machine_model.specs.Machine.{MachineModel}
use Rattle.machine_model.specs.Problem.{automaton_of}
use Rattle.machine_model.specs.declared.problems.Problem.{Problem}
use Rattle.annotation_encode.specs.Assigned.{IsAssignmentOf, assigned_values, machine_values, state_values}
use Rattle.annotation_encode.specs.BaseClauses.{base_clauses}
use Rattle.annotation_encode.proofs.AssignedLemmas.{assigned}
use Rattle.annotation_encode.proofs.Lists.{each_more}
use Rattle.annotation_encode.proofs.Meets.{all_met}
use Rattle.annotation_encode.proofs.assigning.assignment_of.Goals as goal

pub loop-t-preserved : goal.loop-t-preserved
loop-t-preserved c = each_more (machine_values c.args.problem.now c.args.machine.now) c.loop-t.values.items c.push_state_values.new.values.items (λ t. state_values c.args.problem.now c.args.annotation.now.numbers.items t) c.loop-t.t c.loop-t.invariant (search rules)

pub returns-clause-assigned : goal.returns-clause-assigned
returns-clause-assigned c =
    let p : Problem = c.args.problem.now in
    let m : MachineModel = c.args.machine.now in
    let is : c.loop-t.values.items ≡ assigned_values p m c.args.annotation.now.numbers.items = search rules in
    subst (IsAssignmentOf p m c.args.annotation.now.numbers.items) (sym is) (assigned p m c.args.annotation.now.numbers.items c.requires.problem c.size-size.ensures.kept.machine c.requires.machine)

pub returns-clause-met : goal.returns-clause-met
returns-clause-met c =
    let p : Problem = c.args.problem.now in
    let m : MachineModel = c.args.machine.now in
    let made : IsAutomaton (automaton_of p) = subst IsAutomaton c.deref.ensures c.states-states.ensures.kept in
    let is : c.loop-t.values.items ≡ assigned_values p m c.args.annotation.now.numbers.items = search rules in
    let values : IsAssignmentOf p m c.args.annotation.now.numbers.items (assigned_values p m c.args.annotation.now.numbers.items) = assigned p m c.args.annotation.now.numbers.items c.requires.problem c.size-size.ensures.kept.machine c.requires.machine in
    let met : meets (assigned_values p m c.args.annotation.now.numbers.items) (base_clauses p) ≡ true
    = all_met p m c.args.annotation.now.numbers.items (assigned_values p m c.args.annotation.now.numbers.items) c.requires.problem made c.size-size.ensures.kept.machine c.requires.machine c.requires.valid values c.requires.numbered in
    subst (λ vs. meets vs (base_clauses p) ≡ true) (sym is) met
