use Rattle.std.specs.Prelude.{◌≡◌, ℕ, ◌<◌, List, Option, Some, length, slice_get}
use Rattle.batch_run.specs.declared.placed.Placed.{Placed}

-- The answer at each place has the relation to the task at that place (this project's own).
abbrev pub EachAnswers : {Task Answer : Type 0} → (Task → Answer → Type 0) → List Task → List Answer → Type 0
EachAnswers {Task} {Answer} relation tasks answers =
    (k : ℕ) (task : Task) (answer : Answer) → slice_get tasks k ≡ Some task → slice_get answers k ≡ Some answer → relation task answer

-- As many answers as tasks, and the answer at each place has the relation to the task at that place.
pub record AreAnswers {Task Answer : Type 0} (relation : Task → Answer → Type 0) (tasks : List Task) (answers : List Answer) : Type 0 where
  pub count : length answers ≡ length tasks
  pub each : EachAnswers relation tasks answers

-- An answer with the place of a task, to which it has the relation.
pub record IsPlacedAnswer {Task Answer : Type 0} (relation : Task → Answer → Type 0) (tasks : List Task) (p : Placed Answer) : Type 0 where
  pub within : p.place < length tasks
  pub answered : (task : Task) → slice_get tasks p.place ≡ Some task → relation task p.answer

-- A place for each task, and an answer that is kept at a place has the relation to the task there.
pub record AreKept {Task Answer : Type 0} (relation : Task → Answer → Type 0) (tasks : List Task) (slots : List (Option Answer)) : Type 0 where
  pub count : length slots ≡ length tasks
  pub each : (k : ℕ) (task : Task) (answer : Answer) → slice_get tasks k ≡ Some task → slice_get slots k ≡ Some (Some answer) → relation task answer
