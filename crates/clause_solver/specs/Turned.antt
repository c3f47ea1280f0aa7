use Rattle.std.specs.Prelude.{◌≡◌, ℕ, Bool, true, List, ◌++◌, length}
use Rattle.propositional_logic.specs.declared.formula.Cnf.{Cnf}
use Rattle.propositional_logic.specs.Literal.{Literal}
use Rattle.propositional_logic.specs.Clause.{IsWithinVariables}
use Rattle.propositional_logic.specs.Truth.{meets}
use Rattle.refutation_log.specs.declared.entries.Entry.{Entry}
use Rattle.refutation_log.specs.Entry.{clauses_of}
use Rattle.refutation_log.specs.Follows.{Follows}
use Rattle.refutation_log.specs.Teaches.{Teaches}
use Rattle.clause_solver.specs.declared.worker.Turned.{Turned}
use Rattle.clause_solver.specs.declared.worker.Turned.TheVariants.{Model, Learnt}

-- A model of base clauses over the variables 1 to vars: a value for each of them, by which each clause is true (propositional logic).
pub record IsModel (vars : ℕ) (base : List (List Literal)) (values : List Bool) : Type 0 where
  pub total : length values ≡ vars
  pub meets : meets values base ≡ true

-- What a worker has learnt from a list of clauses: an entry by it, no variable of which passes vars, and whose clause follows with its
-- hints and teaches (this project's own).
pub record IsLesson (number vars : ℕ) (clauses : List (List Literal)) (entry : Entry) : Type 0 where
  pub worker : entry.by ≡ number
  pub within : IsWithinVariables vars entry.clause
  pub follows : Follows clauses entry.clause entry.hints
  pub teaches : Teaches clauses entry.clause

-- What a worker's turn may answer: a model of the base clauses, or what it has learnt from them and the entries (this project's own).
abbrev pub IsTurn : ℕ → Cnf → List Entry → Turned → Type 0
IsTurn number base seen (Model assignment) = IsModel base.vars base.clauses.items assignment.values.items
IsTurn number base seen (Learnt entry) = IsLesson number base.vars (base.clauses.items ++ clauses_of seen) entry
