use Rattle.std.specs.Prelude.{ℕ, ◌-◌, Bool, false, List, slice_get, unwrap_or}
use Rattle.std.specs.List.{list_any, list_all}
use Rattle.propositional_logic.specs.Literal.{Literal, sign_eq}

-- The value of a variable under a total assignment, which has the value of variable v at place v - 1 (propositional logic).
abbrev pub value_of : List Bool → ℕ → Bool
value_of values v = unwrap_or (slice_get values (v - 1)) false

-- Whether a literal is true under a total assignment (propositional logic).
abbrev pub is_true_literal : List Bool → Literal → Bool
is_true_literal values l = sign_eq l.positive (value_of values l.var)

-- Whether a clause is true under a total assignment: one of its literals is (propositional logic).
abbrev pub is_true_clause : List Bool → List Literal → Bool
is_true_clause values clause = list_any (is_true_literal values) clause

-- Whether a total assignment meets a list of clauses: each of them is true (propositional logic).
abbrev pub meets : List Bool → List (List Literal) → Bool
meets values clauses = list_all (is_true_clause values) clauses
