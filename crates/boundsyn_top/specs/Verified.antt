-- What a run of `verify` answers of what a run of `solve` printed (this project's own).
use Rattle.std.specs.Prelude.{ℕ, List, Option, Some}
use Rattle.letters_and_lassos.specs.declared.kinds.Kind.{Kind}
use Rattle.letters_and_lassos.specs.declared.kinds.Side.{Side}
use Rattle.letters_and_lassos.specs.declared.kinds.Side.TheVariants.{System, Environment}
use Rattle.input_output.specs.Files.{Files, bytes_under}
use Rattle.program_words.specs.Settings.{Refutations, solve, verify}
use Rattle.solve_ground.specs.declared.texts.SolveText.{SolveText}
use Rattle.solve_ground.specs.SolveText.{IsSolveText}
use Rattle.verify_laws.specs.Accepted.{IsVerifiedAs}
use Rattle.boundsyn_top.specs.Commands.{AnswersAsked}
use Rattle.boundsyn_top.specs.Printed.{HoldBoth}

-- the answer is that the circuit is verified, as of the kind and the conversion by which the text is taken, with this kind or by its own
pub record IsVerifiedLine (side : Side) (text : List ℕ) (kind : Option Kind) (line : List ℕ) (ended : ℕ) : Type 0 where
  pub known : SolveText
  pub is_known : IsSolveText text kind known
  pub verified : IsVerifiedAs side known line ended

-- Whatever answers `verify` of the text and of these bytes, for this side and kind, under whatever names and among whatever files.
abbrev pub IsVerifiedWell : Side → List ℕ → Option Kind → List ℕ → Type 0
IsVerifiedWell side text kind bytes =
    (files : Files) (spec circuit line : List ℕ) (ended : ℕ) → HoldBoth files spec circuit text bytes
    → AnswersAsked (Some files) (verify side kind spec circuit) line ended → IsVerifiedLine side text kind line ended

-- What `solve` prints of a text with status 10, `verify` with the same kind verifies as a controller, and what it prints with status 20 as a
-- counter-strategy, with `--unrealizable`, however far sizes were refuted.
pub record SolvedRunsAreVerified : Type 0 where
  pub controllers : (files : Files) (spec bytes : List ℕ) (kind : Option Kind) (refutations : Refutations)
      → AnswersAsked (Some files) (solve spec kind refutations) bytes 10 → IsVerifiedWell System (bytes_under files spec) kind bytes
  pub counter_strategies : (files : Files) (spec bytes : List ℕ) (kind : Option Kind) (refutations : Refutations)
      → AnswersAsked (Some files) (solve spec kind refutations) bytes 20 → IsVerifiedWell Environment (bytes_under files spec) kind bytes
