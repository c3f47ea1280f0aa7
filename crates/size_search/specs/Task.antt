use Rattle.std.specs.Prelude.{◌≡◌, ℕ, Option}
use Rattle.propositional_logic.specs.declared.formula.Cnf.{Cnf}
use Rattle.propositional_logic.specs.Clause.{IsFormula}
use Rattle.machine_model.specs.Automaton.{IsAutomaton}
use Rattle.machine_model.specs.Problem.{IsProblem, automaton_of}
use Rattle.machine_model.specs.declared.problems.Problem.{Problem}
use Rattle.annotation_encode.specs.BaseClauses.{base_clauses}
use Rattle.annotation_encode.specs.Laws.{HasAccepted, IsMetBySome}
use Rattle.annotation_encode.specs.Variables.{variables_of}
use Rattle.clause_exchange.specs.SharedLog.{SharedLog}
use Rattle.clause_exchange.specs.declared.views.Terms.{Terms}

-- What a `SizeTask` is seen as: the problem of its size, and the shared log on which it is searched.
pub record SizeTaskModel : Type 0 where
  pub problem : Problem
  pub exchange : SharedLog

-- The terms of the shared log of a problem: its variables and its base clauses, with a limit of entries, for so many seats (this
-- project's own).
abbrev pub terms_of : Problem → Option ℕ → ℕ → Terms
terms_of p limit seats = record { vars = variables_of p; base = base_clauses p; limit = limit; seats = seats }

-- A task: its shared log is one of its problem's variables and base clauses (this project's own).
pub record IsTask (t : SizeTaskModel) : Type 0 where
  pub of_problem : IsProblem t.problem
  pub of_automaton : IsAutomaton (automaton_of t.problem)
  pub terms : t.exchange.terms ≡ terms_of t.problem t.exchange.terms.limit t.exchange.terms.seats

-- What a task keeps of itself and of the formula that it hands to workers, which is that of its problem.
pub record IsKeptTask (t : SizeTaskModel) (formula : Cnf) : Type 0 where
  pub task : IsTask t
  pub vars : formula.vars ≡ t.exchange.terms.vars
  pub clauses : formula.clauses.items ≡ t.exchange.terms.base
  pub is_formula : IsFormula formula.vars formula.clauses.items
  pub met : HasAccepted t.problem → IsMetBySome formula.vars formula.clauses.items
