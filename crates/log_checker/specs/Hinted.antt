use Rattle.std.specs.Prelude.{ℕ, All, List}
use Rattle.propositional_logic.specs.Literal.{Literal}
use Rattle.propositional_logic.specs.Clause.{IsWithinVariables, IsFormula}
use Rattle.refutation_log.specs.declared.entries.Entry.{Entry}

-- No variable of the entries' clauses passes vars: the condition of a call that checks a log over a formula (this project's own).
abbrev pub AreWithin : ℕ → List Entry → Type 0
AreWithin vars log = All (λ e. IsWithinVariables vars e.clause) log

-- A formula, and a log over its variables.
pub record IsCheckable (vars : ℕ) (base : List (List Literal)) (log : List Entry) : Type 0 where
  pub formula : IsFormula vars base
  pub within : AreWithin vars log
