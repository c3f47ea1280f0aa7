use Rattle.std.specs.Prelude.{◌≡◌, ℕ, ◌<◌, ◌≤◌, ◌⊎◌, List, Some, Contains, length, take, slice_get}
use Rattle.propositional_logic.specs.Literal.{Literal, negated}
use Rattle.unit_propagate.specs.declared.marks.Mark.{Mark}
use Rattle.unit_propagate.specs.Trail.{literals_of}

-- One of the first two literals of a clause's order, which are watched; of a clause with one literal none is (two watched literals).
abbrev pub IsWatched : List Literal → Literal → Type 0
IsWatched watch l = (1 < length watch) × ((slice_get watch 0 ≡ Some l) ⊎ (slice_get watch 1 ≡ Some l))

-- What a trail keeps of a clause: its literals, at least one, each once, in an order of the trail's own (two watched literals).
pub record IsWatchOf (clause watch : List Literal) : Type 0 where
  pub some : 0 < length watch
  pub all : (l : Literal) → Contains clause l → Contains watch l
  pub only : (l : Literal) → Contains watch l → Contains clause l
  pub once : (i j : ℕ) (l : Literal) → slice_get watch i ≡ Some l → slice_get watch j ≡ Some l → i ≡ j

-- What a trail watches are first clauses of a list of clauses, in its order: so the list begins with the clauses that the trail was
-- shown before (two watched literals).
abbrev pub IsWatching : List (List Literal) → List (List Literal) → Type 0
IsWatching clauses watched = (i : ℕ) (watch : List Literal) → slice_get watched i ≡ Some watch
    → (clause : List Literal) × (slice_get clauses i ≡ Some clause) × IsWatchOf clause watch

-- Some literal of a clause is true.
abbrev pub HasTrue : List Mark → List Literal → Type 0
HasTrue marks clause = (l : Literal) × Contains clause l × Contains (literals_of marks) l

-- The first literals of a trail were looked at: where one of them makes a watched literal of a clause false, some literal of the clause
-- is true (two watched literals).
pub record AreLookedAt (marks : List Mark) (watched : List (List Literal)) (looked : ℕ) : Type 0 where
  pub within : looked ≤ length marks
  pub holds : (i : ℕ) (watch : List Literal) (l : Literal) → slice_get watched i ≡ Some watch → IsWatched watch l
      → Contains (literals_of (take looked marks)) (negated l) → HasTrue marks watch
