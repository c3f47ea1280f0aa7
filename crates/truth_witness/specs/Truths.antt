-- When clauses over AIGER's literals are true (propositional logic).
use Rattle.std.specs.Prelude.{◌≡◌, ℕ, zero, suc, ◌+◌, ◌*◌, ◌≤◌, Bool, List, [], ◌∷◌, All}
use Rattle.std.specs.List.{list_any, list_all}
use Rattle.propositional_logic.specs.Truth.{meets}
use Rattle.aiger_text.specs.Circuit.{Valuation, literal_value}
use Rattle.truth_witness.specs.Clauses.{base_clauses}

-- one of the literals is true
abbrev pub is_met : Valuation → List ℕ → Bool
is_met values lits = list_any (literal_value values) lits

-- one of each clause's literals is true
abbrev pub are_met : Valuation → List (List ℕ) → Bool
are_met values clauses = list_all (is_met values) clauses

-- the values of n variables as a list, from this one on
abbrev pub values_from : Valuation → ℕ → ℕ → List Bool
values_from values v zero = []
values_from values v (suc n) = values v ∷ values_from values (suc v) n

-- The base clauses that are made of clauses over n variables are true exactly where these are: what is left out is always true, and
-- nothing else is changed by the order, by repeats and by what is false.
abbrev pub ClausesAreMade : Type 0
ClausesAreMade =
    (values : Valuation) (n : ℕ) (clauses : List (List ℕ)) → All (All (λ l. l ≤ 2 * n + 1)) clauses
    → meets (values_from values 1 n) (base_clauses clauses) ≡ are_met values clauses
