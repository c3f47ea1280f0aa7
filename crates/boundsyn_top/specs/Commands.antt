-- What each command may write whole, and with which status (this project's own).
use Rattle.std.specs.Prelude.{◌≡◌, ℕ, Option, List, [], ◌∷◌}
use Rattle.input_output.specs.Files.{Files}
use Rattle.program_words.specs.Settings.{Asked, synth, check, expand, expand_solve, lasso, lasso_solve, gen, bench, verify, core, batch, solve}
use Rattle.arbiter_text.specs.Arbiter.{generated_text}
use Rattle.synth_answer.specs.Answer.{Answers}
use Rattle.check_answer.specs.Answer.{CheckAnswers}
use Rattle.flat_answer.specs.Expand.{ExpandAnswers}
use Rattle.flat_answer.specs.Lasso.{LassoAnswers}
use Rattle.solved_flat.specs.Expand.{ExpandSolveAnswers}
use Rattle.solved_flat.specs.Lasso.{LassoSolveAnswers}
use Rattle.bench_answer.specs.Bench.{BenchAnswer}
use Rattle.verify_answer.specs.Answer.{CircuitAnswers}
use Rattle.core_answer.specs.Core.{CoreAnswers}
use Rattle.solve_answer.specs.Answer.{SolveAnswers}
use Rattle.boundsyn_top.specs.Files.{HoldsOfFile}
use Rattle.boundsyn_top.specs.Batch.{ListAnswers}
use Rattle.boundsyn_top.specs.Solving.{limits_by}

-- the statuses with which it answers
abbrev pub statuses_of : Asked → List ℕ
statuses_of (synth spec wanted kind) = 1 ∷ 10 ∷ 11 ∷ 20 ∷ 30 ∷ []
statuses_of (check spec certificate) = 0 ∷ 1 ∷ 40 ∷ []
statuses_of (expand spec) = 0 ∷ 1 ∷ []
statuses_of (expand_solve spec kind nodes) = 0 ∷ 1 ∷ []
statuses_of (lasso spec word) = 0 ∷ 1 ∷ 40 ∷ []
statuses_of (lasso_solve spec word kind) = 0 ∷ 1 ∷ 40 ∷ []
statuses_of (gen clients) = 0 ∷ []
statuses_of (bench clients workers) = 10 ∷ 20 ∷ 30 ∷ []
statuses_of (verify side kind spec circuit) = 0 ∷ 1 ∷ 40 ∷ []
statuses_of (core spec wanted kind) = 1 ∷ 10 ∷ 11 ∷ 20 ∷ 30 ∷ []
statuses_of (batch list wanted) = 0 ∷ 40 ∷ []
statuses_of (solve spec kind refutations) = 1 ∷ 10 ∷ 20 ∷ 30 ∷ []

-- the bytes and the status that may answer a command, each by the definition of its answer
abbrev pub MayAnswer : Option Files → Asked → List ℕ → ℕ → Type 0
MayAnswer told (synth spec wanted kind) bytes status = HoldsOfFile told spec (λ text. Answers text kind wanted bytes status)
MayAnswer told (check spec certificate) bytes status =
    HoldsOfFile told spec (λ text. HoldsOfFile told certificate (λ document. CheckAnswers text document bytes status))
MayAnswer told (expand spec) bytes status = HoldsOfFile told spec (λ text. ExpandAnswers text bytes status)
MayAnswer told (expand_solve spec kind nodes) bytes status = HoldsOfFile told spec (λ text. ExpandSolveAnswers text kind nodes bytes status)
MayAnswer told (lasso spec word) bytes status =
    HoldsOfFile told spec (λ text. HoldsOfFile told word (λ lines. LassoAnswers text lines bytes status))
MayAnswer told (lasso_solve spec word kind) bytes status =
    HoldsOfFile told spec (λ text. HoldsOfFile told word (λ lines. LassoSolveAnswers text kind lines bytes status))
MayAnswer told (gen clients) bytes status = (bytes ≡ generated_text clients) × (status ≡ 0)
MayAnswer told (bench clients workers) bytes status = BenchAnswer clients workers bytes status
MayAnswer told (verify side kind spec circuit) bytes status =
    HoldsOfFile told spec (λ text. HoldsOfFile told circuit (λ lines. CircuitAnswers side text kind lines bytes status))
MayAnswer told (core spec wanted kind) bytes status = HoldsOfFile told spec (λ text. CoreAnswers text kind wanted bytes status)
MayAnswer told (batch list wanted) bytes status = HoldsOfFile told list (λ lines. ListAnswers told lines wanted bytes status)
MayAnswer told (solve spec kind refutations) bytes status = HoldsOfFile told spec (λ text. SolveAnswers text kind (limits_by refutations) bytes status)

-- the bytes and the status that answer what was asked
pub record AnswersAsked (told : Option Files) (asked : Asked) (bytes : List ℕ) (status : ℕ) : Type 0 where
  pub answer : MayAnswer told asked bytes status
