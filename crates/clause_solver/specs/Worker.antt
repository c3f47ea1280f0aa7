use Rattle.std.specs.Prelude.{ℕ, ◌≤◌, List, ◌++◌, length, take}
use Rattle.propositional_logic.specs.Literal.{Literal}
use Rattle.refutation_log.specs.declared.entries.Entry.{Entry}
use Rattle.refutation_log.specs.Entry.{clauses_of}
use Rattle.unit_propagate.specs.Trail.{TrailModel, highest_level}
use Rattle.unit_propagate.specs.Sound.{AreSoundMarks}
use Rattle.unit_propagate.specs.Watched.{IsWatching}
use Rattle.clause_solver.specs.Levels.{IsQuietBelow}

-- What a `Worker` is seen as: its number, its trail, and how many entries it was shown in its turns.
pub record WorkerModel : Type 0 where
  pub number : ℕ
  pub trail : TrailModel
  pub shown : ℕ

-- A trail stands between two turns on base clauses and entries, of which the first were shown before: it is sound, it watches first
-- clauses, and each level below its highest one was propagated to its end over what was shown (conflict-driven clause learning; this
-- project's own).
pub record IsSearching (base : List (List Literal)) (seen : List Entry) (trail : TrailModel) (shown : ℕ) : Type 0 where
  pub count : shown ≤ length seen
  pub watching : IsWatching (base ++ clauses_of seen) trail.watched
  pub sound : AreSoundMarks (base ++ clauses_of seen) trail.marks
  pub quiet : IsQuietBelow (highest_level trail.marks) (base ++ clauses_of (take shown seen)) trail.marks

-- A worker works on base clauses and entries: its earlier turns were on the same base clauses and on first entries of these, or it is
-- new (this project's own).
abbrev pub IsWorkingOn : List (List Literal) → List Entry → WorkerModel → Type 0
IsWorkingOn base seen worker = IsSearching base seen worker.trail worker.shown
