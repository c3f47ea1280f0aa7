-- A run of `check` answers what another run printed as the law of the answers says.
use Rattle.std.proofs.Common.{◌≡◌, ℕ, List, Option, Some, ap, subst, ◌∙◌}
use Rattle.std.specs.Prelude.{◌≢◌, option_map, slice_get}
use Rattle.std.proofs.lemmas.Option.{slice_get-map}
use Rattle.letters_and_lassos.specs.declared.kinds.Kind.{Kind}
use Rattle.input_output.specs.Files.{Files, bytes_under}
use Rattle.synth_engine.specs.declared.settings.Settings.{Settings}
use Rattle.synth_answer.specs.Answer.{Answers}
use Rattle.check_answer.specs.Answer.{CheckAnswers}
use Rattle.core_answer.specs.Core.{CoreAnswers}
use Rattle.batch_answer.specs.Batch.{BatchAnswers, Part}
use Rattle.solve_answer.specs.Answer.{SolveAnswers}
use Rattle.solve_batch.specs.SolvedBatch.{AskedOfEach, SolvedBatchAnswers}
use Rattle.answer_laws.specs.Accepted.{IsAccepted, PrintedIsAccepted}
use Rattle.answer_laws.specs.Solved.{IsSolutionAccepted, SolutionsAreAccepted}
use Rattle.program_words.specs.Settings.{Refutations, check, core, solve, synth}
use Rattle.boundsyn_top.specs.Batch.{AreFilesOf}
use Rattle.boundsyn_top.specs.Commands.{AnswersAsked}
use Rattle.boundsyn_top.specs.Printed.{HoldBoth, IsCheckedWell, IsSolutionCheckedWell, PrintedRunsAreAccepted}
use Rattle.boundsyn_top.specs.Solving.{limits_by}

-- a run of `check` answers the text and the bytes that its files hold
checked_as : (files : Files) (spec certificate text bytes line : List ℕ) (ended : ℕ) → HoldBoth files spec certificate text bytes
    → AnswersAsked (Some files) (check spec certificate) line ended → CheckAnswers text bytes line ended
checked_as files spec certificate text bytes line ended both answers =
    let given = answers.answer in
    let of_text : CheckAnswers text given.holds.bytes line ended =
    subst (λ (t : List ℕ). CheckAnswers t given.holds.bytes line ended) (given.are_told ∙ both.text_is) given.holds.holds in
    subst (λ (b : List ℕ). CheckAnswers text b line ended) (given.holds.are_told ∙ both.bytes_are) of_text

checked_well : (text : List ℕ) (kind : Option Kind) (bytes : List ℕ) (status : ℕ) → IsAccepted text kind bytes status → IsCheckedWell text bytes status
checked_well text kind bytes status is files spec certificate line ended both answers =
    let told = is.checked line ended (checked_as files spec certificate text bytes line ended both answers) in
    record { document = is.document; states = is.states; verdict = is.verdict; ended_is = told.0; line_is = told.1 }

solution_checked_well : (text : List ℕ) (kind : Option Kind) (bytes : List ℕ) (status : ℕ) → IsSolutionAccepted text kind bytes status
    → IsSolutionCheckedWell text kind bytes status
solution_checked_well text kind bytes status is files spec certificate line ended both answers =
    let told = is.checked line ended (checked_as files spec certificate text bytes line ended both answers) in
    record { document = is.document; accepted = is.accepted; verdict = is.verdict; ended_is = told.0; line_is = told.1 }

-- the text of a name that a list has
text_of : (files : Files) (names texts : List (List ℕ)) → AreFilesOf (Some files) names texts → (k : ℕ) (name : List ℕ) → slice_get names k ≡ Some name
    → slice_get texts k ≡ Some (bytes_under files name)
text_of files names texts are k name named =
    ap (λ (ts : List (List ℕ)). slice_get ts k) are ∙ slice_get-map (bytes_under files) names k ∙ ap (λ (o : Option (List ℕ)). option_map (bytes_under files) o) named

module _ (law : PrintedIsAccepted) (solutions : SolutionsAreAccepted) where
  by_synth : (files : Files) (spec bytes : List ℕ) (settings : Settings) (kind : Option Kind) (status : ℕ) → AnswersAsked (Some files) (synth spec settings kind) bytes status
      → status ≢ 1 → IsCheckedWell (bytes_under files spec) bytes status
  by_synth files spec bytes settings kind status answers other =
      let of_text : Answers (bytes_under files spec) kind settings bytes status =
      subst (λ (t : List ℕ). Answers t kind settings bytes status) answers.answer.are_told answers.answer.holds in
      checked_well (bytes_under files spec) kind bytes status (law.by_synth (bytes_under files spec) kind settings bytes status of_text other)

  by_batch : (files : Files) (names texts : List (List ℕ)) (settings : Settings) (bytes : List ℕ) → AreFilesOf (Some files) names texts
      → (b : BatchAnswers names texts settings bytes) (k : ℕ) (name : List ℕ) (part : Part) → slice_get names k ≡ Some name → slice_get b.parts k ≡ Some part
      → part.status ≢ 1 → IsCheckedWell (bytes_under files name) part.lines part.status
  by_batch files names texts settings bytes are b k name part named there other =
      checked_well (bytes_under files name) _ part.lines part.status
      (((law.by_batch names texts settings bytes b).each k (bytes_under files name) part (text_of files names texts are k name named) there).accepted other)

  by_core : (files : Files) (spec bytes : List ℕ) (settings : Settings) (kind : Option Kind) (status : ℕ) → AnswersAsked (Some files) (core spec settings kind) bytes status
      → status ≢ 1 → status ≢ 20 → IsCheckedWell (bytes_under files spec) bytes status
  by_core files spec bytes settings kind status answers other less =
      let of_text : CoreAnswers (bytes_under files spec) kind settings bytes status =
      subst (λ (t : List ℕ). CoreAnswers t kind settings bytes status) answers.answer.are_told answers.answer.holds in
      checked_well (bytes_under files spec) kind bytes status (law.by_core (bytes_under files spec) kind settings bytes status of_text other less)

  by_solve : (files : Files) (spec bytes : List ℕ) (kind : Option Kind) (refutations : Refutations) (status : ℕ)
      → AnswersAsked (Some files) (solve spec kind refutations) bytes status → status ≢ 1 → IsSolutionCheckedWell (bytes_under files spec) kind bytes status
  by_solve files spec bytes kind refutations status answers other =
      let of_text : SolveAnswers (bytes_under files spec) kind (limits_by refutations) bytes status =
      subst (λ (t : List ℕ). SolveAnswers t kind (limits_by refutations) bytes status) answers.answer.are_told answers.answer.holds in
      solution_checked_well (bytes_under files spec) kind bytes status (solutions.by_solve (bytes_under files spec) kind (limits_by refutations) bytes status of_text other)

  by_solve_batch : (files : Files) (names texts : List (List ℕ)) (asked : AskedOfEach) (bytes : List ℕ) → AreFilesOf (Some files) names texts
      → (b : SolvedBatchAnswers names texts asked bytes) (k : ℕ) (name : List ℕ) (part : Part) → slice_get names k ≡ Some name → slice_get b.parts k ≡ Some part
      → part.status ≢ 1 → IsSolutionCheckedWell (bytes_under files name) asked.given part.lines part.status
  by_solve_batch files names texts asked bytes are b k name part named there other =
      solution_checked_well (bytes_under files name) asked.given part.lines part.status
      (((solutions.by_solve_batch names texts asked bytes b).each k (bytes_under files name) part (text_of files names texts are k name named) there).accepted other)

  pub runs_are_accepted : PrintedRunsAreAccepted
  runs_are_accepted = record { by_synth = by_synth; by_batch = by_batch; by_core = by_core; by_solve = by_solve; by_solve_batch = by_solve_batch }
