use Rattle.std.specs.Prelude.{ℕ, List, [], ◌++◌, filter, nat_le}
use Rattle.propositional_logic.specs.Literal.{Literal}
use Rattle.unit_propagate.specs.declared.marks.Mark.{Mark}
use Rattle.unit_propagate.specs.Sound.{AreSoundMarks}
use Rattle.unit_propagate.specs.Watched.{IsWatching}

-- The empty trail is sound over every list of clauses, and a trail that watches nothing watches the first clauses of every list.
pub record EmptyTrailsBegin : Type 0 where
  pub sound : (clauses : List (List Literal)) → AreSoundMarks clauses []
  pub watching : (clauses : List (List Literal)) → IsWatching clauses []

-- What holds over a list of clauses holds over every longer list that begins alike.
pub record LongerListsKeep : Type 0 where
  pub sound : (clauses more : List (List Literal)) (marks : List Mark) → AreSoundMarks clauses marks → AreSoundMarks (clauses ++ more) marks
  pub watching : (clauses more : List (List Literal)) (watched : List (List Literal)) → IsWatching clauses watched → IsWatching (clauses ++ more) watched

-- Going back to a level leaves a sound trail sound.
abbrev pub GoingBackKeepsSound : Type 0
GoingBackKeepsSound = (clauses : List (List Literal)) (marks : List Mark) (level : ℕ) → AreSoundMarks clauses marks → AreSoundMarks clauses (filter (λ m. nat_le m.level level) marks)
