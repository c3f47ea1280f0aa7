use Rattle.std.specs.Prelude.{ℕ, ◌<◌, ◌≤◌, ◌^◌, ◌↔◌, Bool, List, [], ◌∷◌, All, Any, Contains}
use Rattle.std.specs.Cmp.Lexicographic.{pointwise}
use Rattle.propositional_logic.specs.Literal.{Literal, negated, literal_eq}

-- The variables rise strictly along the list, the first one above n (this project's own).
abbrev pub IsRisingFrom : ℕ → List Literal → Type 0
IsRisingFrom n [] = Unit {0}
IsRisingFrom n (l ∷ ls) = (n < l.var) × IsRisingFrom l.var ls

-- A list of literals is a clause in its one written order: by rising variable, from 1, no variable twice, so no tautology
-- (propositional logic; the order is this project's own).
abbrev pub IsClause : List Literal → Type 0
IsClause lits = IsRisingFrom 0 lits

-- The clause with exactly the literals of a list: in the written order, and with the same literals (propositional logic).
pub record IsClauseOf (lits clause : List Literal) : Type 0 where
  pub sorted : IsClause clause
  pub same_literals : (l : Literal) → Contains clause l ↔ Contains lits l

-- Some variable of the list passes vars (this project's own).
abbrev pub HasBadVariable : ℕ → List Literal → Type 0
HasBadVariable vars lits = Any (λ l. vars < l.var) lits

-- The list holds a literal and its negation (propositional logic).
abbrev pub IsTautology : List Literal → Type 0
IsTautology lits = Any (λ l. Contains lits (negated l)) lits

-- No variable of the list passes vars (this project's own).
abbrev pub IsWithinVariables : ℕ → List Literal → Type 0
IsWithinVariables vars lits = All (λ l. l.var ≤ vars) lits

-- A formula over the variables 1 to vars: vars is at most 2^30, and no variable of its clauses passes it. Each call that takes
-- a formula has this condition (this project's own).
abbrev pub IsFormula : ℕ → List (List Literal) → Type 0
IsFormula vars clauses = (vars ≤ 2 ^ 30) × All (IsWithinVariables vars) clauses

-- Whether two lists of literals are the same, literal by literal (this project's own).
abbrev pub clause_eq : List Literal → List Literal → Bool
clause_eq a b = pointwise literal_eq a b
