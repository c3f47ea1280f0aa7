use Rattle.std.proofs.Common.{◌≡◌, ◌≤◌, ◌^◌, List, sym, subst, arith}
use Rattle.std.specs.Prelude.{All}
use Rattle.propositional_logic.specs.Clause.{IsWithinVariables}
use Rattle.propositional_logic.specs.Literal.{Literal}
use Rattle.machine_model.specs.Automaton.{IsAutomaton}
use Rattle.machine_model.specs.Problem.{automaton_of}
use Rattle.annotation_encode.specs.Laws.{IsMetBySome}
use Rattle.letter_clauses.specs.BaseClauses.{base_clauses}
use Rattle.letter_clauses.specs.Variables.{variables_of}
use Rattle.letter_clauses.proofs.ClausesAll.{base_from, base_within}
use Rattle.letter_clauses.proofs.Refuted.{met_by_accepted}
use Rattle.letter_clauses.proofs.sizes.LetterSize.encode.Goals as goal
use Rattle.letter_clauses.proofs.sizes.LetterSize.encode.Goals.{After-all_variables}

-- the clauses that are listed
listed : (c : After-all_variables) → c.push_order_clauses.new.clauses.items ≡ base_clauses c.args.self.now.problem.now c.args.self.now.letters.now
listed c =
    base_from c.args.self.now.problem.now c.args.self.now.letters.now c.in_ok-clauses.clauses.items c.push_row_clauses.new.clauses.items c.push_start_clause.new.clauses.items c.push_edge_clauses.new.clauses.items c.push_chain_clauses.new.clauses.items c.push_order_clauses.new.clauses.items
    c.in_ok-clauses.ensures c.in_ok-push_row_clauses.ensures c.in_ok-push_start_clause.ensures c.in_ok-push_edge_clauses.ensures c.in_ok-push_chain_clauses.ensures c.in_ok-push_order_clauses.ensures

made : (c : After-all_variables) → IsAutomaton (automaton_of c.args.self.now.problem.now)
made c = subst IsAutomaton c.deref.ensures c.states-states.ensures.kept

pub returns-clause-clauses : goal.returns-clause-clauses
returns-clause-clauses c = listed (goal.at.returns-clause-clauses c).After-all_variables

pub returns-clause-formula : goal.returns-clause-formula
returns-clause-formula c =
    let at : After-all_variables = (goal.at.returns-clause-formula c).After-all_variables in
    let small : c.all_variables.result ≤ 2 ^ 30 = omega (arith, c.all_variables.ensures.small) in (
      small,
      subst (λ (cs : List (List Literal)). All (IsWithinVariables c.all_variables.result) cs) (sym (listed at))
          (subst (λ n. All (IsWithinVariables n) (base_clauses c.args.self.now.problem.now c.args.self.now.letters.now)) (sym c.all_variables.ensures.value) (base_within c.args.self.now.problem.now c.args.self.now.letters.now c.requires.size (made at))),
    )

pub returns-clause-met : goal.returns-clause-met
returns-clause-met c =
    let at : After-all_variables = (goal.at.returns-clause-met c).After-all_variables in
    λ accepted.
    subst (λ n. IsMetBySome n c.push_order_clauses.new.clauses.items) (sym c.all_variables.ensures.value)
    (subst (λ (cs : List (List Literal)). IsMetBySome (variables_of c.args.self.now.problem.now c.args.self.now.letters.now) cs) (sym (listed at))
    (met_by_accepted c.args.self.now.problem.now c.args.self.now.letters.now c.requires.size (made at) c.components_are_classes.ensures accepted))
