use Rattle.std.specs.Prelude.{◌≡◌, ℕ, true, false, List, [], ◌∷◌}
use Rattle.propositional_logic.specs.Literal.{Literal}
use Rattle.refutation_log.specs.Follows.{follows}

-- A variable as a literal, and its negation.
abbrev pub yes : ℕ → Literal
yes v = record { var = v; positive = true }

abbrev pub no : ℕ → Literal
no v = record { var = v; positive = false }

-- The base clauses `1` and `-1`.
abbrev pub one_and_not : List (List Literal)
one_and_not = (yes 1 ∷ []) ∷ (no 1 ∷ []) ∷ []

-- The base clauses `1 2`, `1 -2`, `-1 2` and `-1 -2`.
abbrev pub all_four : List (List Literal)
all_four = (yes 1 ∷ yes 2 ∷ []) ∷ (yes 1 ∷ no 2 ∷ []) ∷ (no 1 ∷ yes 2 ∷ []) ∷ (no 1 ∷ no 2 ∷ []) ∷ []

-- What follows from them, by hand.
pub record FollowsByExample : Type 0 where
  pub conflict : follows one_and_not [] (1 ∷ 2 ∷ []) ≡ true
  pub only_unit : follows one_and_not [] (1 ∷ []) ≡ false
  pub no_such_clause : follows one_and_not [] (2 ∷ 3 ∷ []) ≡ false
  pub no_clause_zero : follows one_and_not [] (0 ∷ []) ≡ false
  pub no_hint : follows one_and_not [] [] ≡ false
  pub copy : follows one_and_not (yes 1 ∷ []) (1 ∷ []) ≡ true
  pub learnt : follows all_four (yes 1 ∷ []) (1 ∷ 2 ∷ []) ≡ true
  pub not_unit : follows all_four [] (1 ∷ 2 ∷ []) ≡ false
  pub weaker : follows all_four (yes 1 ∷ yes 2 ∷ []) (1 ∷ []) ≡ true
  pub falsified_early : follows all_four (yes 1 ∷ yes 2 ∷ []) (1 ∷ 1 ∷ []) ≡ false
