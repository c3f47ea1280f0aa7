use Rattle.std.specs.Prelude.{◌≡◌, ◌≢◌, ℕ, ◌+◌, Bool, true, not, All, Contains, List, [], ◌∷◌, Option, Some, None, if◌then◌else◌, filter}
use Rattle.std.specs.List.{list_any, list_all}
use Rattle.propositional_logic.specs.Literal.{Literal, negated, literal_eq}
use Rattle.propositional_logic.specs.Truth.{is_true_literal}

-- A partial assignment is the list of the literals that it makes true.

-- Whether a literal is true under a partial assignment: it is in the list (propositional logic).
abbrev pub is_true_in : List Literal → Literal → Bool
is_true_in trues l = list_any (literal_eq l) trues

-- Whether a literal is false under a partial assignment: its negation is in the list (propositional logic).
abbrev pub is_false_in : List Literal → Literal → Bool
is_false_in trues l = is_true_in trues (negated l)

-- The literals of a clause that a partial assignment doesn't make false (propositional logic).
abbrev pub unfalsified : List Literal → List Literal → List Literal
unfalsified trues clause = filter (λ l. not (is_false_in trues l)) clause

-- Whether a clause is satisfied: one of its literals is true (propositional logic).
abbrev pub is_satisfied : List Literal → List Literal → Bool
is_satisfied trues clause = list_any (is_true_in trues) clause

-- Whether a clause is falsified: all of its literals are false (propositional logic).
abbrev pub is_falsified : List Literal → List Literal → Bool
is_falsified trues clause = list_all (is_false_in trues) clause

-- The literal in which a clause is unit, given those of its literals that aren't false: the one that is left, where it has no
-- value (unit propagation, as in DPLL).
abbrev pub lone_of : List Literal → List Literal → Option Literal
lone_of trues [] = None
lone_of trues (l ∷ []) = if is_true_in trues l then None else Some l
lone_of trues (_ ∷ _ ∷ _) = None

-- The literal in which a clause is unit: it has no value, and every other literal is false. None where the clause isn't unit
-- (unit propagation, as in DPLL).
abbrev pub unit_of : List Literal → List Literal → Option Literal
unit_of trues clause = lone_of trues (unfalsified trues clause)

-- A total assignment agrees with a partial one: it makes all of its literals true (propositional logic).
abbrev pub AgreesWith : List Bool → List Literal → Type 0
AgreesWith values trues = All (λ l. is_true_literal values l ≡ true) trues

-- What it is that a clause is unit in l: l is one of its literals, and has no value; all its other literals are false
-- (unit propagation, as in DPLL).
pub record IsUnitIn (trues clause : List Literal) (l : Literal) : Type 0 where
  pub member : Contains clause l
  pub not_true : Contains trues l → ⊥
  pub not_false : Contains trues (negated l) → ⊥
  pub others_false : (m : Literal) → Contains clause m → m ≢ l → Contains trues (negated m)

-- The literals that a total assignment makes true, by rising variable from n + 1, its values being those of the variables from
-- there on (propositional logic).
abbrev pub literals_from : ℕ → List Bool → List Literal
literals_from n [] = []
literals_from n (b ∷ bs) = record { var = n + 1; positive = b } ∷ literals_from (n + 1) bs
