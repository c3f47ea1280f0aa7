-- What a run of `check` answers of what another run printed (this project's own).
use Rattle.std.specs.Prelude.{◌≡◌, ◌≢◌, ℕ, List, Option, Some, slice_get}
use Rattle.letters_and_lassos.specs.declared.kinds.Kind.{Kind}
use Rattle.input_output.specs.Files.{Files, bytes_under}
use Rattle.synth_engine.specs.declared.settings.Settings.{Settings}
use Rattle.document_text.specs.Parts.{Document}
use Rattle.document_text.specs.States.{States}
use Rattle.check_answer.specs.Answer.{accepted_line}
use Rattle.batch_answer.specs.Batch.{BatchAnswers, Part}
use Rattle.solved_text.specs.Parts as solved
use Rattle.solve_check.specs.Accepted.{IsAcceptedSolved}
use Rattle.solve_check.specs.Line as solved_line
use Rattle.solve_batch.specs.SolvedBatch.{AskedOfEach, SolvedBatchAnswers}
use Rattle.answer_laws.specs.Accepted.{status_told}
use Rattle.answer_laws.specs.Solved as solutions
use Rattle.program_words.specs.Settings.{Refutations, check, core, solve, synth}
use Rattle.boundsyn_top.specs.Batch.{AreFilesOf}
use Rattle.boundsyn_top.specs.Commands.{AnswersAsked}

-- among these files the one is the text, and the other has these bytes
pub record HoldBoth (files : Files) (spec certificate text bytes : List ℕ) : Type 0 where
  pub text_is : bytes_under files spec ≡ text
  pub bytes_are : bytes_under files certificate ≡ bytes

-- The bytes state a document whose verdict goes with the status that they were printed with; the answer to them has status 0, and its line
-- tells that verdict and the document's kind.
pub record IsAcceptedLine (bytes : List ℕ) (status : ℕ) (line : List ℕ) (ended : ℕ) : Type 0 where
  pub document : Document
  pub states : States bytes document
  pub verdict : status ≡ status_told document.verdict
  pub ended_is : ended ≡ 0
  pub line_is : line ≡ accepted_line document.verdict document.kind

-- Whatever answers `check` of the text and of these bytes, under whatever names and among whatever files.
abbrev pub IsCheckedWell : List ℕ → List ℕ → ℕ → Type 0
IsCheckedWell text bytes status =
    (files : Files) (spec certificate line : List ℕ) (ended : ℕ) → HoldBoth files spec certificate text bytes
    → AnswersAsked (Some files) (check spec certificate) line ended → IsAcceptedLine bytes status line ended

-- The bytes state a document of version 6 that is accepted for the text, taken with this kind or by its own, and its verdict goes with the
-- status that they were printed with; the answer to them has status 0, and its line is the document's.
pub record IsSolutionLine (text : List ℕ) (given : Option Kind) (bytes : List ℕ) (status : ℕ) (line : List ℕ) (ended : ℕ) : Type 0 where
  pub document : solved.Document
  pub accepted : IsAcceptedSolved text given bytes document
  pub verdict : status ≡ solutions.status_told document.verdict
  pub ended_is : ended ≡ 0
  pub line_is : line ≡ solved_line.accepted_line (solved_line.acceptance_of accepted.known document)

-- the same of what `solve` printed for a text
abbrev pub IsSolutionCheckedWell : List ℕ → Option Kind → List ℕ → ℕ → Type 0
IsSolutionCheckedWell text given bytes status =
    (files : Files) (spec certificate line : List ℕ) (ended : ℕ) → HoldBoth files spec certificate text bytes
    → AnswersAsked (Some files) (check spec certificate) line ended → IsSolutionLine text given bytes status line ended

-- What answers `synth` of a text is checked well, unless it is the line of a refusal, with whatever settings and whichever kind was given.
-- So is each part of what answers the texts that a list names, for the text of its name, and what answers `core` with another status than 20.
-- The same of `solve`, and of each part of what answers the texts that are solved for a list, however far sizes may be refuted.
pub record PrintedRunsAreAccepted : Type 0 where
  pub by_synth : (files : Files) (spec bytes : List ℕ) (settings : Settings) (kind : Option Kind) (status : ℕ)
      → AnswersAsked (Some files) (synth spec settings kind) bytes status → status ≢ 1 → IsCheckedWell (bytes_under files spec) bytes status
  pub by_batch : (files : Files) (names texts : List (List ℕ)) (settings : Settings) (bytes : List ℕ) → AreFilesOf (Some files) names texts
      → (b : BatchAnswers names texts settings bytes) (k : ℕ) (name : List ℕ) (part : Part) → slice_get names k ≡ Some name → slice_get b.parts k ≡ Some part
      → part.status ≢ 1 → IsCheckedWell (bytes_under files name) part.lines part.status
  pub by_core : (files : Files) (spec bytes : List ℕ) (settings : Settings) (kind : Option Kind) (status : ℕ)
      → AnswersAsked (Some files) (core spec settings kind) bytes status → status ≢ 1 → status ≢ 20 → IsCheckedWell (bytes_under files spec) bytes status
  pub by_solve : (files : Files) (spec bytes : List ℕ) (kind : Option Kind) (refutations : Refutations) (status : ℕ)
      → AnswersAsked (Some files) (solve spec kind refutations) bytes status → status ≢ 1 → IsSolutionCheckedWell (bytes_under files spec) kind bytes status
  pub by_solve_batch : (files : Files) (names texts : List (List ℕ)) (asked : AskedOfEach) (bytes : List ℕ) → AreFilesOf (Some files) names texts
      → (b : SolvedBatchAnswers names texts asked bytes) (k : ℕ) (name : List ℕ) (part : Part) → slice_get names k ≡ Some name → slice_get b.parts k ≡ Some part
      → part.status ≢ 1 → IsSolutionCheckedWell (bytes_under files name) asked.given part.lines part.status
