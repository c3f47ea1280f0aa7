-- The line at which a log of a document of version 6 fails (this project's own).
use Rattle.std.specs.Prelude.{◌≡◌, ℕ, ◌+◌, true, false, List, Option, Some, None, length}
use Rattle.machine_model.specs.declared.problems.Problem.{Problem}
use Rattle.refutation_log.specs.Log.{is_ended, IsLegal}
use Rattle.log_checker.specs.declared.faults.LogFault.{LogFault}
use Rattle.log_checker.specs.Faults.{entry_fault, IsFoundAt}
use Rattle.letter_clauses.specs.BaseClauses.{base_clauses}
use Rattle.letter_clauses.specs.Variables.{variables_of}
use Rattle.solved_text.specs.Parts.{SizeLog}
use Rattle.size_refutations.specs.Ground.{HasNoAutomaton, IsSizeOf, LogGround}
use Rattle.size_refutations.specs.Heads.{has_letters, has_numbers, letters_for}

-- Over a problem and letters: the line of the head, where the size isn't allowed or VARS or BASE are other numbers; else that of the first entry that
-- isn't legal, however many there are; else the one behind the last entry, where that isn't the empty clause.
pub data FailsOver (p : Problem) (letters : List ℕ) (l : SizeLog) : Option ℕ → Type 0 where
  other_numbers : has_numbers p letters l ≡ false → FailsOver p letters l (Some l.line)
  bad_entry : (fault : LogFault) (place : ℕ) → has_numbers p letters l ≡ true
      → IsFoundAt (entry_fault (base_clauses p letters) None) l.entries 0 (length l.entries) fault place
      → FailsOver p letters l (Some (l.line + 1 + place))
  left_open : has_numbers p letters l ≡ true → IsLegal (variables_of p letters) (base_clauses p letters) None l.entries
      → is_ended l.entries ≡ false → FailsOver p letters l (Some (l.line + 1 + length l.entries))
  is_good : has_numbers p letters l ≡ true → IsLegal (variables_of p letters) (base_clauses p letters) None l.entries
      → is_ended l.entries ≡ true → FailsOver p letters l None

-- For a side: the line of the head, where the side has no automaton, or the head names no letters as it should; else that over the problem of the size
-- and the letters that the head names.
pub data LogFails (g : LogGround) (l : SizeLog) : Option ℕ → Type 0 where
  no_automaton : HasNoAutomaton g → LogFails g l (Some l.line)
  other_letters : (p : Problem) → IsSizeOf g l.size p → has_letters p l ≡ false → LogFails g l (Some l.line)
  over_problem : (p : Problem) (first : Option ℕ) → IsSizeOf g l.size p → has_letters p l ≡ true → FailsOver p (letters_for p l) l first
      → LogFails g l first
