use Rattle.std.specs.Prelude.{◌≡◌, ◌≢◌, ℕ, ◌≤◌, ⊤, Bool, true, false, List, [], ◌∷◌, ◌++◌, Option, Some, All, AllPairs, MatchOption, length, take, slice_get}
use Rattle.propositional_logic.specs.Literal.{Literal}
use Rattle.propositional_logic.specs.Clause.{IsWithinVariables}
use Rattle.refutation_log.specs.declared.entries.Entry.{Entry}
use Rattle.refutation_log.specs.Entry.{clauses_of}
use Rattle.refutation_log.specs.Follows.{Follows}

-- Whether a list of literals is the empty clause, which no assignment makes true (propositional logic).
abbrev pub is_empty_clause : List Literal → Bool
is_empty_clause [] = true
is_empty_clause (_ ∷ _) = false

-- Whether the last entry is the empty clause (this project's own).
abbrev pub is_ended : List Entry → Bool
is_ended [] = false
is_ended (e ∷ []) = is_empty_clause e.clause
is_ended (_ ∷ e ∷ es) = is_ended (e ∷ es)

-- At most so many entries stand, where there is a limit (this project's own).
abbrev pub IsWithinLimit : Option ℕ → List Entry → Type 0
IsWithinLimit limit log = MatchOption limit ⊤ (λ most. length log ≤ most)

-- A log is legal over the base clauses, whose variables are 1 to vars (clausal proofs with hints; the limit is this project's own).
pub record IsLegal (vars : ℕ) (base : List (List Literal)) (limit : Option ℕ) (log : List Entry) : Type 0 where
  -- no variable passes vars
  pub within : All (λ e. IsWithinVariables vars e.clause) log
  -- each entry follows from the base clauses and the entries before it
  pub follows : (i : ℕ) (e : Entry) → slice_get log i ≡ Some e → Follows (base ++ clauses_of (take i log)) e.clause e.hints
  -- the clauses are different
  pub different : AllPairs (λ d e. d.clause ≢ e.clause) log
  -- at most so many entries stand, where there is a limit
  pub limited : IsWithinLimit limit log
  -- none stands after the empty clause
  pub ended : AllPairs (λ d e. d.clause ≢ []) log

-- A log is closed: legal, and ended by the empty clause. It refutes the base clauses (clausal proofs).
pub record IsClosed (vars : ℕ) (base : List (List Literal)) (limit : Option ℕ) (log : List Entry) : Type 0 where
  pub legal : IsLegal vars base limit log
  pub refutes : is_ended log ≡ true

-- A log is full: there is a limit, and it is legal with exactly so many entries, and not closed (this project's own).
pub record IsFull (vars : ℕ) (base : List (List Literal)) (limit : Option ℕ) (log : List Entry) : Type 0 where
  pub legal : IsLegal vars base limit log
  pub at_limit : limit ≡ Some (length log)
  pub not_closed : is_ended log ≡ false
