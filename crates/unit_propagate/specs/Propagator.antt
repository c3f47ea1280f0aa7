use Rattle.std.specs.Prelude.{◌≡◌, ℕ, ◌<◌, ◌≤◌, ◌⊎◌, List, [], ◌∷◌, ◌++◌, Some, Contains, length, slice_get}
use Rattle.propositional_logic.specs.Literal.{Literal, negated}
use Rattle.propositional_logic.specs.declared.formula.Cnf.{Cnf}
use Rattle.refutation_log.specs.declared.entries.Entry.{Entry}
use Rattle.refutation_log.specs.Entry.{clauses_of}
use Rattle.unit_propagate.specs.declared.marks.Mark.{Mark}
use Rattle.unit_propagate.specs.declared.rows.Watcher.{Watcher}
use Rattle.unit_propagate.specs.declared.propagator.Propagator.{Propagator}
use Rattle.unit_propagate.specs.Trail.{literals_of}
use Rattle.unit_propagate.specs.Sound.{Extends}
use Rattle.unit_propagate.specs.Marks.{room_of}
use Rattle.unit_propagate.specs.Watched.{IsWatching, IsWatched, HasTrue}
use Rattle.propositional_logic.specs.Codes.{code_of}
use Rattle.unit_propagate.specs.Rows.{row_at}
use Rattle.unit_propagate.specs.Watches.{IsListed, IsGuarded, IsDone}

-- The base clauses and those of the entries.
abbrev pub clauses_in : Cnf → List Entry → List (List Literal)
clauses_in base seen = base.clauses.items ++ clauses_of seen

-- What a trail keeps: each clause is watched, a watched literal is made false by a literal before the place only if some literal of its
-- clause is true, and the first clauses of one literal are true on level 0.
pub record IsKeptPropagator (s : Propagator) : Type 0 where
  pub listed : IsListed (room_of s.marks.vars) s.watches
  pub guarded : IsGuarded s.marks.marks s.watches.watched s.place s.kept
  pub done : IsDone s.marks.marks s.watches s.done
  pub place : s.place ≤ length s.marks.marks
  pub kept : s.kept ≤ s.place
  pub forced : s.done ≤ length s.watches.units

-- A clause stands in the list of a literal, at a place of some kind, with one of its own literals as its blocker.
abbrev pub StandsAt : (ℕ → Type 0) → List (List Watcher) → Literal → ℕ → List Literal → Type 0
StandsAt P rows l k clause = (g : ℕ) × (x : Watcher) × P g × (slice_get (row_at rows (code_of l)) g ≡ Some x) × (x.clause ≡ k) × Contains clause x.blocker

-- The clauses that watch a false literal are looked at, up to place i of its list, where those that stay have gone to the places before
-- place j: in each of them that isn't to come, some literal is true.
pub record IsVisiting (clauses : List (List Literal)) (s : Propagator) (l : Literal) (j i : ℕ) : Type 0 where
  pub kept : IsKeptPropagator s
  pub watching : IsWatching clauses s.watches.watched
  pub falsified : Contains (literals_of s.marks.marks) (negated l)
  pub order : j ≤ i
  pub seen : (k : ℕ) (c : List Literal) → slice_get s.watches.watched k ≡ Some c → IsWatched c l
      → (HasTrue s.marks.marks c × StandsAt (λ g. g < j) s.watches.rows l k c) ⊎ StandsAt (λ g. i ≤ g) s.watches.rows l k c

-- What propagation leaves at each step.
pub record Goes (clauses : List (List Literal)) (old new : Propagator) : Type 0 where
  pub kept : IsKeptPropagator new
  pub watching : IsWatching clauses new.watches.watched
  pub vars : new.marks.vars ≡ old.marks.vars
  pub extends : (first : List Mark) → Extends clauses first old.marks.marks → Extends clauses first new.marks.marks
  pub size : length old.watches.watched ≤ length new.watches.watched

-- While clauses are looked at, none is watched anew, and those of one literal stay.
pub record Stays (old new : Propagator) : Type 0 where
  pub size : length new.watches.watched ≡ length old.watches.watched
  pub units : (k : ℕ) (l : Literal) → slice_get new.watches.watched k ≡ Some (l ∷ []) → slice_get old.watches.watched k ≡ Some (l ∷ [])
  pub place : new.place ≡ old.place

-- The clauses of one literal are true.
abbrev pub AreUnitsTrue : Propagator → Type 0
AreUnitsTrue s = (k : ℕ) (l : Literal) → slice_get s.watches.watched k ≡ Some (l ∷ []) → Contains (literals_of s.marks.marks) l

-- All clauses that watch a false literal are looked at: in each of them some literal is true.
pub record IsVisited (s : Propagator) (l : Literal) : Type 0 where
  pub seen : (k : ℕ) (c : List Literal) → slice_get s.watches.watched k ≡ Some c → IsWatched c l → HasTrue s.marks.marks c

-- The first clauses of one literal are true.
abbrev pub AreForced : Propagator → ℕ → Type 0
AreForced s i = (j k : ℕ) (l : Literal) → j < i → slice_get s.watches.units j ≡ Some k → slice_get s.watches.watched k ≡ Some (l ∷ [])
    → Contains (literals_of s.marks.marks) l
