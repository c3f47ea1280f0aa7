-- What `check` says of the documents that `solve` and `batch --solve` print (this project's own).
use Rattle.std.specs.Prelude.{◌≡◌, ◌≢◌, ℕ, List, Option}
use Rattle.letters_and_lassos.specs.declared.kinds.Kind.{Kind}
use Rattle.solved_text.specs.declared.documents.Verdict.{Verdict}
use Rattle.solved_text.specs.declared.documents.Verdict.TheVariants.{Realizable, Unrealizable, Unknown}
use Rattle.solved_text.specs.Parts.{Document}
use Rattle.solve_check.specs.Accepted.{IsAcceptedSolved}
use Rattle.solve_check.specs.Line.{accepted_line, acceptance_of}
use Rattle.check_answer.specs.Answer.{CheckAnswers}
use Rattle.solve_answer.specs.Answer.{LogLimits, SolveAnswers}
use Rattle.batch_run.specs.Answers.{AreAnswers}
use Rattle.batch_answer.specs.Batch.{Part}
use Rattle.solve_batch.specs.SolvedBatch.{AskedOfEach, SolvedBatchAnswers}

-- the status with which a document of this verdict is answered
abbrev pub status_told : Verdict → ℕ
status_told (Realizable n) = 10
status_told (Unrealizable n) = 20
status_told Unknown = 30

-- The bytes state a document that is accepted for the text, taken with the given kind or by its own, and its verdict goes with the status
-- that they were printed with. Whatever `check` answers to the text and these bytes has status 0, and its line is the document's: it tells
-- the verdict, the kind, the SEMANTICS of a converted text, and how many sizes are refuted.
pub record IsSolutionAccepted (text : List ℕ) (given : Option Kind) (bytes : List ℕ) (status : ℕ) : Type 0 where
  pub document : Document
  pub accepted : IsAcceptedSolved text given bytes document
  pub verdict : status ≡ status_told document.verdict
  pub checked : (line : List ℕ) (ended : ℕ) → CheckAnswers text bytes line ended
      → (ended ≡ 0) × (line ≡ accepted_line (acceptance_of accepted.known document))

-- so are the lines of a part of a batch, unless they are those of a refusal
pub record SolvedPartIsAccepted (given : Option Kind) (text : List ℕ) (part : Part) : Type 0 where
  pub accepted : part.status ≢ 1 → IsSolutionAccepted text given part.lines part.status

-- What `solve` prints for a text, whatever kind is given and however far it may refute, `check` accepts, unless it is the line of a
-- refusal. So it does what `batch --solve` prints for each of its texts.
pub record SolutionsAreAccepted : Type 0 where
  pub by_solve : (text : List ℕ) (given : Option Kind) (limits : LogLimits) (bytes : List ℕ) (status : ℕ) → SolveAnswers text given limits bytes status
      → status ≢ 1 → IsSolutionAccepted text given bytes status
  pub by_solve_batch : (names texts : List (List ℕ)) (asked : AskedOfEach) (bytes : List ℕ) (b : SolvedBatchAnswers names texts asked bytes)
      → AreAnswers (SolvedPartIsAccepted asked.given) texts b.parts
