use Rattle.std.specs.Prelude.{◌≡◌, ◌<◌, ◌≤◌, length, ◌↔◌, Bool, true, false, List, ◌∷◌, Some, All, Any, Contains}
use Rattle.propositional_logic.specs.Literal.{Literal, negated}
use Rattle.propositional_logic.specs.Clause.{IsClause, IsTautology}
use Rattle.propositional_logic.specs.Truth.{is_true_literal, is_true_clause}
use Rattle.propositional_logic.specs.Partial.{is_satisfied, is_falsified, unit_of, AgreesWith, IsUnitIn, literals_from}

-- A clause is settled by the set of its literals, and is no tautology.
pub record ClausesAreSets : Type 0 where
  pub one_order : (a b : List Literal) → IsClause a → IsClause b → ((l : Literal) → Contains a l ↔ Contains b l) → a ≡ b
  pub no_tautology : (a : List Literal) → IsClause a → IsTautology a → ⊥

-- What the three tests of a clause under a partial assignment mean.
pub record TestsMean : Type 0 where
  pub satisfied : (trues clause : List Literal) → (is_satisfied trues clause ≡ true) ↔ Any (Contains trues) clause
  pub falsified : (trues clause : List Literal) → (is_falsified trues clause ≡ true) ↔ All (λ l. Contains trues (negated l)) clause
  pub unit : (trues clause : List Literal) (l : Literal) → IsClause clause → (unit_of trues clause ≡ Some l) ↔ IsUnitIn trues clause l

-- Under a total assignment that agrees with a partial one, a satisfied clause is true, a falsified one isn't, and a unit
-- clause that is true makes its literal true.
pub record TestsAreSound : Type 0 where
  pub satisfied : (values : List Bool) (trues clause : List Literal) → AgreesWith values trues → is_satisfied trues clause ≡ true → is_true_clause values clause ≡ true
  pub falsified : (values : List Bool) (trues clause : List Literal) → AgreesWith values trues → is_falsified trues clause ≡ true → is_true_clause values clause ≡ false
  pub unit : (values : List Bool) (trues clause : List Literal) (l : Literal) → AgreesWith values trues → unit_of trues clause ≡ Some l → is_true_clause values clause ≡ true → AgreesWith values (l ∷ trues)

-- A total assignment agrees with the list of the literals that it makes true, of which each variable has one.
pub record AssignmentsAreTotal : Type 0 where
  pub agrees : (values : List Bool) → AgreesWith values (literals_from 0 values)
  pub one_each : (values : List Bool) (l : Literal) → 0 < l.var → l.var ≤ length values → (is_true_literal values l ≡ true) ↔ Contains (literals_from 0 values) l
