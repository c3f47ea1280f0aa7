use Rattle.std.proofs.Common.{◌≡◌, ◌≤◌, ◌^◌, List, ap, ◌∙◌, sym, subst, arith}
use Rattle.std.specs.Prelude.{All}
use Rattle.propositional_logic.specs.Clause.{IsWithinVariables}
use Rattle.propositional_logic.specs.Literal.{Literal}
use Rattle.machine_model.specs.Automaton.{IsAutomaton}
use Rattle.machine_model.specs.Problem.{automaton_of}
use Rattle.annotation_encode.specs.BaseClauses.{base_clauses}
use Rattle.annotation_encode.specs.Variables.{variables_of}
use Rattle.annotation_encode.proofs.BaseClausesAll.{base_from, base_within}
use Rattle.annotation_encode.proofs.Further.{met_by_some}
use Rattle.annotation_encode.proofs.clauses.encode.Goals as goal
use Rattle.annotation_encode.proofs.clauses.encode.Goals.{After-variables}

-- the clauses that are listed
listed : (c : After-variables) → c.push_order_clauses.new.clauses.items ≡ base_clauses c.args.problem.now
listed c =
    base_from c.new.result.problem.now c.in_ok-clauses.clauses.items c.push_row_clauses.new.clauses.items c.push_start_clause.new.clauses.items c.push_edge_clauses.new.clauses.items c.push_chain_clauses.new.clauses.items c.push_order_clauses.new.clauses.items
    c.in_ok-clauses.ensures c.in_ok-push_row_clauses.ensures c.in_ok-push_start_clause.ensures c.in_ok-push_edge_clauses.ensures c.in_ok-push_chain_clauses.ensures c.in_ok-push_order_clauses.ensures
    ∙ ap base_clauses c.new.ensures

variables : (c : After-variables) → c.variables.result ≡ variables_of c.args.problem.now
variables c = c.variables.ensures.value ∙ ap variables_of c.new.ensures

made : (c : After-variables) → IsAutomaton (automaton_of c.args.problem.now)
made c = subst IsAutomaton c.deref.ensures c.states-states.ensures.kept

pub returns-clause-clauses : goal.returns-clause-clauses
returns-clause-clauses c = listed (goal.at.returns-clause-clauses c).After-variables

pub returns-clause-formula : goal.returns-clause-formula
returns-clause-formula c =
    let at : After-variables = (goal.at.returns-clause-formula c).After-variables in
    let small : c.variables.result ≤ 2 ^ 30 = omega (arith, c.variables.ensures.small) in (
      small,
      subst (λ (cs : List (List Literal)). All (IsWithinVariables c.variables.result) cs) (sym (listed at))
          (subst (λ n. All (IsWithinVariables n) (base_clauses c.args.problem.now)) (sym (variables at)) (base_within c.args.problem.now c.requires (made at))),
    )

pub returns-clause-met : goal.returns-clause-met
returns-clause-met c =
    let at : After-variables = (goal.at.returns-clause-met c).After-variables in
    λ accepted. met_by_some c.accepted_is_annotated.ensures c.args.problem.now c.variables.result c.push_order_clauses.new.clauses.items c.requires (made at) (variables at) (listed at) accepted
