use Rattle.std.proofs.Common.{◌≡◌, ◌*◌, ◌≤◌, arith, rules, subst}
use Rattle.machine_model.specs.Automaton.{IsAutomaton, states_of}
use Rattle.machine_model.specs.Problem.{automaton_of}
use Rattle.annotation_encode.specs.Variables.{counted_before}
use Rattle.letter_clauses.proofs.Bounds.{few_before}
use Rattle.letter_clauses.proofs.sizes.LetterSize.all_counted.Goals as goal

pub returns-clause-small : goal.returns-clause-small
returns-clause-small c =
    let made : IsAutomaton (automaton_of c.args.self.now.problem.now) = subst IsAutomaton c.deref.ensures c.states.ensures.kept in
    let most : counted_before c.args.self.now.problem.now (states_of (automaton_of c.args.self.now.problem.now)) ≤ 20000 * states_of (automaton_of c.args.self.now.problem.now)
    = few_before c.args.self.now.problem.now (states_of (automaton_of c.args.self.now.problem.now)) c.components_are_classes.ensures made c.requires.local c.requires.within.states in
    let value : c.counted_before.result ≡ counted_before c.args.self.now.problem.now (states_of (automaton_of c.args.self.now.problem.now)) = search rules in
    let few : states_of (automaton_of c.args.self.now.problem.now) ≤ 20000 = c.requires.within.states in
    omega (arith, most, value, few)
