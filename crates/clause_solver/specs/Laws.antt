use Rattle.std.specs.Prelude.{◌≢◌, ℕ, List, [], ◌++◌, Contains}
use Rattle.propositional_logic.specs.Literal.{Literal}
use Rattle.propositional_logic.specs.Clause.{IsClause}
use Rattle.refutation_log.specs.declared.entries.Entry.{Entry}
use Rattle.refutation_log.specs.Teaches.{Teaches}
use Rattle.unit_propagate.specs.declared.marks.Mark.{Mark}
use Rattle.unit_propagate.specs.Trail.{IsTrail}
use Rattle.conflict_learn.specs.Learnt.{clause_level, IsLearnt}
use Rattle.clause_solver.specs.Levels.{IsQuietBelow}
use Rattle.clause_solver.specs.Worker.{WorkerModel, IsWorkingOn}

-- A clause that is learnt teaches over each list of clauses over which the trail is quiet below the level of the falsified clause.
abbrev pub LearntClausesTeach : Type 0
LearntClausesTeach = (vars : ℕ) (clauses : List (List Literal)) (marks : List Mark) (conflict clause : List Literal) → IsTrail vars marks
    → IsLearnt marks conflict clause → IsQuietBelow (clause_level marks conflict) clauses marks → Teaches clauses clause

-- A clause that teaches over a list of clauses contains none of them, as a set of literals, but the empty one.
abbrev pub TeachingClausesAreNew : Type 0
TeachingClausesAreNew = (clauses : List (List Literal)) (clause known : List Literal) → Teaches clauses clause → Contains clauses known → IsClause known → known ≢ []
    → ((l : Literal) → Contains known l → Contains clause l) → ⊥

-- A new worker works on all base clauses and entries, and one that works on a list of entries works on every longer list that begins
-- alike.
pub record WorkGoesOn : Type 0 where
  pub new : (base : List (List Literal)) (seen : List Entry) (number vars : ℕ) → IsWorkingOn base seen (record { number = number; trail = record { vars = vars; marks = []; watched = []; looked = 0 }; shown = 0 })
  pub longer : (base : List (List Literal)) (seen more : List Entry) (worker : WorkerModel) → IsWorkingOn base seen worker → IsWorkingOn base (seen ++ more) worker
