use Rattle.std.specs.Prelude.{◌≡◌, ℕ, ◌-◌, Bool, true, false, nat_eq, if◌then◌else◌, List, [], ◌∷◌, Option, None, map, slice_get}
use Rattle.std.specs.Option.{option_and_then, option_map_or}
use Rattle.propositional_logic.specs.Literal.{Literal, negated}
use Rattle.propositional_logic.specs.Partial.{is_falsified, unit_of}

-- The clause that a number names: the first one has number 1 (this project's own).
abbrev pub clause_named : List (List Literal) → ℕ → Option (List Literal)
clause_named clauses n = if nat_eq n 0 then None else slice_get clauses (n - 1)

-- The literal in which the clause of that number is unit, where there is such a clause and it is unit (unit propagation).
abbrev pub unit_named : List (List Literal) → List Literal → ℕ → Option Literal
unit_named clauses trues n = option_and_then (unit_of trues) (clause_named clauses n)

-- Whether there is a clause of that number, and it is falsified (unit propagation).
abbrev pub is_falsified_named : List (List Literal) → List Literal → ℕ → Bool
is_falsified_named clauses trues n = option_map_or (is_falsified trues) (clause_named clauses n) false

-- Whether the hints lead from a partial assignment to a falsified clause: each hinted clause but the last is unit, and makes its
-- literal true; the last one is falsified. There is at least one hint (reverse unit propagation with hints, as in LRAT).
abbrev pub leads_to_conflict : List (List Literal) → List Literal → List ℕ → Bool
leads_to_conflict clauses trues [] = false
leads_to_conflict clauses trues (n ∷ []) = is_falsified_named clauses trues n
leads_to_conflict clauses trues (n ∷ m ∷ hints) =
    option_map_or (λ l. leads_to_conflict clauses (l ∷ trues) (m ∷ hints)) (unit_named clauses trues n) false

-- A clause follows from a list of clauses with its hints: after all of its literals are set false, the hints lead to a falsified
-- clause (reverse unit propagation with hints, as in LRAT).
abbrev pub follows : List (List Literal) → List Literal → List ℕ → Bool
follows clauses clause hints = leads_to_conflict clauses (map negated clause) hints

abbrev pub Follows : List (List Literal) → List Literal → List ℕ → Type 0
Follows clauses clause hints = follows clauses clause hints ≡ true
