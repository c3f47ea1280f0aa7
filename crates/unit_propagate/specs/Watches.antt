use Rattle.std.specs.Prelude.{◌≡◌, ◌≢◌, ℕ, ◌+◌, ◌*◌, ◌^◌, ◌<◌, ◌≤◌, ◌⊎◌, Bool, false, not, if◌then◌else◌, List, [], ◌∷◌, ◌++◌, Some, All, Contains, map, length, filter, slice_get, slice_set}
use Rattle.propositional_logic.specs.Literal.{Literal, negated, literal_eq}
use Rattle.unit_propagate.specs.declared.marks.Mark.{Mark}
use Rattle.unit_propagate.specs.declared.rows.Watcher.{Watcher}
use Rattle.propositional_logic.specs.Codes.{code_of}
use Rattle.unit_propagate.specs.Rows.{row_at, AddsTo, SetsAt, CutsOut}
use Rattle.unit_propagate.specs.Arena.{IsPlace, index_of}
use Rattle.unit_propagate.specs.Watched.{IsWatched}

-- What a `Watches` is seen as: the literals of each clause, the watched ones first, for each literal the clauses that watch it, and the places of the clauses with one literal.
pub record WatchList : Type 0 where
  pub watched : List (List Literal)
  pub rows : List (List Watcher)
  pub units : List ℕ

-- A watcher by the number of its clause in place of its place in the array.
abbrev pub numbered : List ℕ → Watcher → Watcher
numbered starts x = record { clause = index_of starts x.clause; blocker = x.blocker }

abbrev pub numbered_rows : List ℕ → List (List Watcher) → List (List Watcher)
numbered_rows starts rows = map (map (numbered starts)) rows

-- Each watcher has the place of a clause.
abbrev pub ArePlaces : List ℕ → List (List Watcher) → Type 0
ArePlaces starts rows = (row : ℕ) → All (λ x. IsPlace starts x.clause) (row_at rows row)

-- A literal is neither of two.
abbrev pub differs : Literal → Literal → Literal → Bool
differs first second l = if literal_eq l first then false else not (literal_eq l second)

-- A clause's literals, two given ones first.
abbrev pub ordered : List Literal → Literal → Literal → List Literal
ordered lits first second = first ∷ second ∷ filter (differs first second) lits

-- A clause stands in the list of a literal, with one of its own literals as its blocker (two watched literals).
abbrev pub IsWatchedIn : List (List Watcher) → Literal → ℕ → List Literal → Type 0
IsWatchedIn rows l k clause = (x : Watcher) × Contains (row_at rows (code_of l)) x × (x.clause ≡ k) × Contains clause x.blocker

-- Each clause stands in the lists of its two watched literals, or among those with one literal.
pub record IsListed (room : ℕ) (w : WatchList) : Type 0 where
  pub size : length w.rows ≡ 2 * room
  pub listed : (k : ℕ) (c : List Literal) (l : Literal) → slice_get w.watched k ≡ Some c → IsWatched c l → IsWatchedIn w.rows l k c
  pub alone : (k : ℕ) (l : Literal) → slice_get w.watched k ≡ Some (l ∷ []) → Contains w.units k
  pub units : (i k : ℕ) → slice_get w.units i ≡ Some k → (l : Literal) × (slice_get w.watched k ≡ Some (l ∷ []))

-- Lists that only grow.
pub record RowsGrow (old new : List (List Watcher)) : Type 0 where
  pub size : length new ≡ length old
  pub stays : (row : ℕ) (x : Watcher) → Contains (row_at old row) x → Contains (row_at new row) x

-- A literal and the other of the first two of a clause, with the literal's place.
abbrev pub IsSide : List Literal → Literal → ℕ → Literal → Type 0
IsSide c l p other = (1 < length c) × (((p ≡ 0) × (slice_get c 0 ≡ Some l) × (slice_get c 1 ≡ Some other)) ⊎ ((p ≡ 1) × (slice_get c 1 ≡ Some l) × (slice_get c 0 ≡ Some other)))

-- Two literals of a clause change places.
abbrev pub exchanged : List Literal → ℕ → ℕ → Literal → Literal → List Literal
exchanged c p j from to = slice_set (slice_set c p to) j from

-- Clause k has two literals at two places, whose lists are in the table.
pub record CanRewatch (old : WatchList) (k p j : ℕ) (from to : Literal) : Type 0 where
  pub clause : List Literal
  pub there : slice_get old.watched k ≡ Some clause
  pub at_p : slice_get clause p ≡ Some from
  pub at_j : slice_get clause j ≡ Some to
  pub to_fits : code_of to ≤ 2 * 2 ^ 30 + 1 → code_of to < length old.rows

-- A clause watches the literal at place j in place of that at place p, as this watcher. In the list of the latter it still stands.
pub record Rewatches (old new : WatchList) (x : Watcher) (p j : ℕ) (from to : Literal) : Type 0 where
  pub watched : (c : List Literal) → slice_get old.watched x.clause ≡ Some c → new.watched ≡ slice_set old.watched x.clause (exchanged c p j from to)
  pub adds : AddsTo old.rows new.rows (code_of to) x
  pub units : new.units ≡ old.units

-- A watcher is written at place i of one list.
pub record Keeps (old new : WatchList) (row i : ℕ) (x : Watcher) : Type 0 where
  pub watched : new.watched ≡ old.watched
  pub sets : SetsAt old.rows new.rows row i x
  pub units : new.units ≡ old.units

-- The watchers from one place of a list up to another are taken out of it.
pub record CutsWatches (old new : WatchList) (row from to : ℕ) : Type 0 where
  pub watched : new.watched ≡ old.watched
  pub cuts : CutsOut old.rows new.rows row from to
  pub units : new.units ≡ old.units

-- A clause of two literals or more is watched from now on.
pub record Adds (old new : WatchList) (watch : List Literal) : Type 0 where
  pub more : 1 < length watch
  pub watched : new.watched ≡ old.watched ++ watch ∷ []
  pub grow : RowsGrow old.rows new.rows
  pub listed : (l : Literal) → IsWatched watch l → IsWatchedIn new.rows l (length old.watched) watch
  pub units : new.units ≡ old.units

-- A clause of one literal stands behind the others from now on.
pub record AddsAlone (old new : WatchList) (l : Literal) : Type 0 where
  pub watched : new.watched ≡ old.watched ++ (l ∷ []) ∷ []
  pub rows : new.rows ≡ old.rows
  pub units : new.units ≡ old.units ++ (length old.watched) ∷ []

-- Nothing is watched anew; lists may hold more.
pub record KeepsWatches (old new : WatchList) : Type 0 where
  pub watched : new.watched ≡ old.watched
  pub grow : RowsGrow old.rows new.rows
  pub units : new.units ≡ old.units

-- Where a is false by a literal before the place, some literal of the clause is true; where that literal stands before kept, this one is
-- so on no higher level.
abbrev pub Guard : List Mark → ℕ → ℕ → Literal → List Literal → Type 0
Guard marks place kept a c = (i : ℕ) (m : Mark) → i < place → slice_get marks i ≡ Some m → m.lit ≡ negated a
    → (n : Mark) × Contains marks n × Contains c n.lit × (i < kept → n.level ≤ m.level)

-- A watched literal is made false by a literal before the place only if some literal of its clause is true (two watched literals).
abbrev pub IsGuarded : List Mark → List (List Literal) → ℕ → ℕ → Type 0
IsGuarded marks watched place kept = (k : ℕ) (c : List Literal) (l : Literal) → slice_get watched k ≡ Some c → IsWatched c l → Guard marks place kept l c

-- The first clauses of one literal are true on level 0.
abbrev pub IsDone : List Mark → WatchList → ℕ → Type 0
IsDone marks w done = (i k : ℕ) (l : Literal) → i < done → slice_get w.units i ≡ Some k → slice_get w.watched k ≡ Some (l ∷ [])
    → (m : Mark) × Contains marks m × (m.lit ≡ l) × (m.level ≡ 0)

-- The literal at a place makes a literal of a clause false, which isn't a given one.
abbrev pub IsFalsifier : List Mark → List Literal → Literal → ℕ → Type 0
IsFalsifier marks lits except place = (m : Mark) × (slice_get marks place ≡ Some m) × Contains lits (negated m.lit) × (negated m.lit ≢ except)
