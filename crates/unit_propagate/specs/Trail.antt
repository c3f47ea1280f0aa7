use Rattle.std.specs.Prelude.{◌≢◌, ℕ, ◌<◌, ◌≤◌, max, List, [], ◌∷◌, All, AllPairs, map}
use Rattle.propositional_logic.specs.Literal.{Literal}
use Rattle.unit_propagate.specs.declared.marks.Mark.{Mark}

-- A `Mark` is a literal on the trail, with its level. Its reason is the number of the clause by which propagation added it; a literal
-- that was assumed has none (conflict-driven clause learning).

-- What a `Trail` is seen as: the number of variables, the literals in the order in which they became true, what it watches, which are
-- the clauses that propagation was shown, each in an order of which the first two literals are watched, and how many of its literals
-- were looked at (two watched literals).
pub record TrailModel : Type 0 where
  pub vars : ℕ
  pub marks : List Mark
  pub watched : List (List Literal)
  pub looked : ℕ

-- The literals of a trail: the partial assignment that makes them true.
abbrev pub literals_of : List Mark → List Literal
literals_of marks = map (λ m. m.lit) marks

-- The highest level of a trail; that of an empty one is 0 (conflict-driven clause learning).
abbrev pub highest_level : List Mark → ℕ
highest_level [] = 0
highest_level (m ∷ ms) = max m.level (highest_level ms)

-- A variable has no value: no literal of the trail is of this variable.
abbrev pub IsFree : List Mark → ℕ → Type 0
IsFree marks var = All (λ m. m.lit.var ≢ var) marks

-- What each trail keeps: its literals are of the variables 1 to vars, each variable has one value at most, and levels never fall.
pub record IsTrail (vars : ℕ) (marks : List Mark) : Type 0 where
  pub within : All (λ m. (0 < m.lit.var) × (m.lit.var ≤ vars)) marks
  pub once : AllPairs (λ m n. m.lit.var ≢ n.lit.var) marks
  pub rising : AllPairs (λ m n. m.level ≤ n.level) marks
