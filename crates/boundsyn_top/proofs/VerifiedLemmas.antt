-- A run of `verify` verifies what a run of `solve` printed.
use Rattle.std.proofs.Common.{◌≡◌, ℕ, List, Option, Some, arith, refl, subst, ◌∙◌}
use Rattle.letters_and_lassos.specs.declared.kinds.Kind.{Kind}
use Rattle.letters_and_lassos.specs.declared.kinds.Side.{Side}
use Rattle.letters_and_lassos.specs.declared.kinds.Side.TheVariants.{System, Environment}
use Rattle.input_output.specs.Files.{Files, bytes_under}
use Rattle.program_words.specs.Settings.{Refutations, solve, verify}
use Rattle.solve_answer.specs.Answer.{LogLimits, SolveAnswers}
use Rattle.solve_answer.specs.Answer as answers
use Rattle.verify_answer.specs.Answer.{CircuitAnswers}
use Rattle.verify_laws.specs.Accepted.{AcceptedAreVerified}
use Rattle.boundsyn_top.specs.Commands.{AnswersAsked}
use Rattle.boundsyn_top.specs.Printed.{HoldBoth}
use Rattle.boundsyn_top.specs.Solving.{limits_by}
use Rattle.boundsyn_top.specs.Verified.{IsVerifiedWell, SolvedRunsAreVerified}

-- a run of `verify` answers the text and the bytes that its files hold
verified_as : (side : Side) (kind : Option Kind) (files : Files) (spec circuit text bytes line : List ℕ) (ended : ℕ) → HoldBoth files spec circuit text bytes
    → AnswersAsked (Some files) (verify side kind spec circuit) line ended → CircuitAnswers side text kind bytes line ended
verified_as side kind files spec circuit text bytes line ended both answered =
    let given = answered.answer in
    let of_text : CircuitAnswers side text kind given.holds.bytes line ended =
    subst (λ (t : List ℕ). CircuitAnswers side t kind given.holds.bytes line ended) (given.are_told ∙ both.text_is) given.holds.holds in
    subst (λ (b : List ℕ). CircuitAnswers side text kind b line ended) (given.holds.are_told ∙ both.bytes_are) of_text

module _ (law : AcceptedAreVerified) where
  module _ (text : List ℕ) (kind : Option Kind) (limits : LogLimits) (bytes : List ℕ) where
    controller_well : (status : ℕ) → status ≡ 10 → SolveAnswers text kind limits bytes status → IsVerifiedWell System text kind bytes
    controller_well status is (answers.realizable n ended p) files spec circuit line ends both answered =
        record {
          known = p.accepted.known;
          is_known = p.accepted.is_known;
          verified = law.controllers text kind bytes p.document n p.accepted p.verdict_is line ends
              (verified_as System kind files spec circuit text bytes line ends both answered);
        }
    controller_well status is (answers.refused code at ended first line) files spec circuit told ends both answered = absurd (omega (arith, is, ended))
    controller_well status is (answers.unrealizable n ended p) files spec circuit told ends both answered = absurd (omega (arith, is, ended))
    controller_well status is (answers.unknown ended p) files spec circuit told ends both answered = absurd (omega (arith, is, ended))

    counter_well : (status : ℕ) → status ≡ 20 → SolveAnswers text kind limits bytes status → IsVerifiedWell Environment text kind bytes
    counter_well status is (answers.unrealizable n ended p) files spec circuit line ends both answered =
        record {
          known = p.accepted.known;
          is_known = p.accepted.is_known;
          verified = law.counter_strategies text kind bytes p.document n p.accepted p.verdict_is line ends
              (verified_as Environment kind files spec circuit text bytes line ends both answered);
        }
    counter_well status is (answers.refused code at ended first line) files spec circuit told ends both answered = absurd (omega (arith, is, ended))
    counter_well status is (answers.realizable n ended p) files spec circuit told ends both answered = absurd (omega (arith, is, ended))
    counter_well status is (answers.unknown ended p) files spec circuit told ends both answered = absurd (omega (arith, is, ended))

  solved_as : (files : Files) (spec bytes : List ℕ) (kind : Option Kind) (refutations : Refutations) (status : ℕ)
      → AnswersAsked (Some files) (solve spec kind refutations) bytes status → SolveAnswers (bytes_under files spec) kind (limits_by refutations) bytes status
  solved_as files spec bytes kind refutations status answered =
      subst (λ (t : List ℕ). SolveAnswers t kind (limits_by refutations) bytes status) answered.answer.are_told answered.answer.holds

  pub runs_are_verified : SolvedRunsAreVerified
  runs_are_verified = record {
    controllers = λ files spec bytes kind refutations answered.
        controller_well (bytes_under files spec) kind (limits_by refutations) bytes 10 refl (solved_as files spec bytes kind refutations 10 answered);
    counter_strategies = λ files spec bytes kind refutations answered.
        counter_well (bytes_under files spec) kind (limits_by refutations) bytes 20 refl (solved_as files spec bytes kind refutations 20 answered);
  }
