use Rattle.std.proofs.Common.{◌≡◌, List, OnOk, ◌∷◌, ◌++◌, [], ap, ◌∙◌, sym, subst}
use Rattle.propositional_logic.specs.Clause.{IsWithinVariables}
use Rattle.propositional_logic.specs.Literal.{Literal}
use Rattle.machine_model.specs.Automaton.{IsAutomaton}
use Rattle.machine_model.specs.Problem.{automaton_of}
use Rattle.annotation_encode.specs.BaseClauses.{is}
use Rattle.letter_clauses.specs.BaseClauses.{start_clause}
use Rattle.letter_clauses.specs.Variables.{var_count, variables_of}
use Rattle.letter_clauses.proofs.ClauseOrder.{start_none, start-rises}
use Rattle.letter_clauses.proofs.clauses.Encoding.push_start_clause.Goals as goal
use Rattle.letter_clauses.proofs.clauses.Encoding.push_start_clause.Goals.{After-new-start}

-- the clause begins numbers at 0
start : (c : After-new-start) → c.new-start.result ∷ [] ≡ start_clause c.args.self.now.size.problem.now c.args.self.now.size.letters.now
start c =
    ap (λ (l : Literal). l ∷ [])
    (c.new-start.ensures ∙ ap is (c.var_count.ensures.value ∙ ap (var_count c.args.self.now.size.problem.now c.args.self.now.size.letters.now 0 0)
    (sym (start_none c.args.self.now.size.problem.now c.args.self.now.size.letters.now c.requires.problem.local))))

pub push_clause-requires-clause-within : goal.push_clause-requires-clause-within
push_clause-requires-clause-within c =
    let made : IsAutomaton (automaton_of c.args.self.now.size.problem.now) = subst IsAutomaton c.deref.ensures c.states-states.ensures.kept in
    subst (IsWithinVariables (variables_of c.args.self.now.size.problem.now c.args.self.now.size.letters.now)) (sym (start (goal.at.push_clause-requires-clause-within c).After-new-start))
    (start-rises c.args.self.now.size.problem.now c.args.self.now.size.letters.now c.requires.problem made).within

pub returns : goal.returns
returns c =
    subst (λ (lits : List Literal). OnOk c.push_clause.result (c.push_clause.new.clauses.items ≡ c.args.clauses.now.items ++ lits ∷ []))
    (start (goal.at.returns c).After-new-start) c.push_clause.ensures
