use Rattle.std.specs.Prelude.{◌≡◌, ◌≢◌, ℕ, ◌<◌, ◌≤◌, List, ◌++◌, Some, None, All, AllPairs, Contains, length, take, slice_get}
use Rattle.propositional_logic.specs.Literal.{Literal, negated}
use Rattle.refutation_log.specs.Follows.{clause_named}
use Rattle.unit_propagate.specs.declared.marks.Mark.{Mark}
use Rattle.unit_propagate.specs.Trail.{literals_of, highest_level}

-- The clause of that number is a reason for l where the literals before l are true: it holds l, and its other literals are all false
-- (unit propagation).
pub record IsReason (clauses : List (List Literal)) (number : ℕ) (before : List Literal) (l : Literal) : Type 0 where
  pub clause : List Literal
  pub named : clause_named clauses number ≡ Some clause
  pub member : Contains clause l
  pub others_false : (k : Literal) → Contains clause k → k ≢ l → Contains before (negated k)

-- A trail is sound over a list of clauses (conflict-driven clause learning).
pub record AreSoundMarks (clauses : List (List Literal)) (marks : List Mark) : Type 0 where
  -- levels never fall along the trail
  pub rising : AllPairs (λ m n. m.level ≤ n.level) marks
  -- a literal without a reason is the first of its level, and this level is at least 1
  pub assumed : (i : ℕ) (m : Mark) → slice_get marks i ≡ Some m → m.reason ≡ None → (0 < m.level) × All (λ n. n.level ≢ m.level) (take i marks)
  -- each reason is a clause that holds the literal, and whose other literals are made false by literals before this one
  pub reasons : (i : ℕ) (m : Mark) (number : ℕ) → slice_get marks i ≡ Some m → m.reason ≡ Some number
      → IsReason clauses number (literals_of (take i marks)) m.lit

-- What propagation does to a trail: the old one is a prefix of the new one, and each literal that is added has the highest level of
-- the old one, and a clause as its reason (unit propagation).
pub record Extends (clauses : List (List Literal)) (old new : List Mark) : Type 0 where
  pub added : List Mark
  pub grown : new ≡ old ++ added
  pub level : All (λ m. m.level ≡ highest_level old) added
  pub reasons : (i : ℕ) (m : Mark) → length old ≤ i → slice_get new i ≡ Some m
      → (number : ℕ) × (m.reason ≡ Some number) × IsReason clauses number (literals_of (take i new)) m.lit
