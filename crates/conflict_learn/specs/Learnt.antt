use Rattle.std.specs.Prelude.{◌≡◌, ℕ, ◌<◌, ◌≤◌, max, true, nat_eq, if◌then◌else◌, List, [], ◌∷◌, All, filter, length}
use Rattle.propositional_logic.specs.Literal.{Literal}
use Rattle.propositional_logic.specs.Partial.{is_falsified}
use Rattle.unit_propagate.specs.declared.marks.Mark.{Mark}
use Rattle.unit_propagate.specs.Trail.{literals_of}

-- The level at which a variable got its value; 0 where it has none (conflict-driven clause learning).
abbrev pub level_in : List Mark → ℕ → ℕ
level_in [] var = 0
level_in (m ∷ ms) var = if nat_eq m.lit.var var then m.level else level_in ms var

-- The highest level that a literal of a clause has; that of the empty clause is 0 (conflict-driven clause learning).
abbrev pub clause_level : List Mark → List Literal → ℕ
clause_level marks [] = 0
clause_level marks (l ∷ ls) = max (level_in marks l.var) (clause_level marks ls)

-- A clause that is learnt from a falsified one: it is false under the trail, and it has exactly one literal of the highest level of
-- the falsified clause, and none above; where that level is 0, it is empty (first unique implication point).
pub record IsLearnt (marks : List Mark) (conflict clause : List Literal) : Type 0 where
  pub falsified : is_falsified (literals_of marks) clause ≡ true
  pub one : 0 < clause_level marks conflict → length (filter (λ l. nat_eq (level_in marks l.var) (clause_level marks conflict)) clause) ≡ 1
  pub below : All (λ l. level_in marks l.var ≤ clause_level marks conflict) clause
  pub empty : clause_level marks conflict ≡ 0 → clause ≡ []
