use Rattle.std.proofs.Common.{◌≡◌, ◌∷◌, [], ap, ◌∙◌, sym, subst}
use Rattle.propositional_logic.specs.Clause.{IsWithinVariables}
use Rattle.propositional_logic.specs.Literal.{Literal}
use Rattle.machine_model.specs.Automaton.{IsAutomaton}
use Rattle.machine_model.specs.Problem.{automaton_of}
use Rattle.annotation_encode.specs.BaseClauses.{is, start_clause}
use Rattle.annotation_encode.specs.Variables.{var_count, variables_of}
use Rattle.annotation_encode.proofs.ClauseOrder.{start_small, start-rises}
use Rattle.annotation_encode.proofs.clauses.Encoding.push_start_clause.Goals as goal

pub var_count-requires-clause-number : goal.var_count-requires-clause-number
var_count-requires-clause-number c = rw c.start_number-number.ensures (start_small c.args.self.now.numbering.problem.now c.requires)

pub push_clause-requires-clause-within : goal.push_clause-requires-clause-within
push_clause-requires-clause-within c =
    let made : IsAutomaton (automaton_of c.args.self.now.numbering.problem.now) = subst IsAutomaton c.deref.ensures c.states-states.ensures.kept in
    let start : c.new-start.result ∷ [] ≡ start_clause c.args.self.now.numbering.problem.now
    = ap (λ (l : Literal). l ∷ []) (c.new-start.ensures ∙ ap is (c.var_count.ensures.value ∙ ap (var_count c.args.self.now.numbering.problem.now 0 0) c.start_number-number.ensures)) in
    subst (IsWithinVariables (variables_of c.args.self.now.numbering.problem.now)) (sym start) (start-rises c.args.self.now.numbering.problem.now c.requires made).within
