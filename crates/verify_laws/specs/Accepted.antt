-- What `verify` answers of a document that is accepted for a text (this project's own).
use Rattle.std.specs.Prelude.{◌≡◌, ℕ, List, Option}
use Rattle.letters_and_lassos.specs.declared.kinds.Kind.{Kind}
use Rattle.letters_and_lassos.specs.declared.kinds.Side.{Side}
use Rattle.letters_and_lassos.specs.declared.kinds.Side.TheVariants.{System, Environment}
use Rattle.solved_text.specs.declared.documents.Verdict.TheVariants.{Realizable, Unrealizable}
use Rattle.solved_text.specs.Parts.{Document}
use Rattle.solve_check.specs.Accepted.{IsAcceptedSolved}
use Rattle.solve_ground.specs.declared.texts.SolveText.{SolveText}
use Rattle.verify_answer.specs.Answer.{CircuitAnswers, tested_line}

-- the answer is that the circuit is verified, as of the kind and the conversion by which the text is known
pub record IsVerifiedAs (side : Side) (t : SolveText) (line : List ℕ) (ended : ℕ) : Type 0 where
  pub ended_is : ended ≡ 0
  pub line_is : line ≡ tested_line side t.kind t.semantics

-- A document that is accepted for a text, taken with the given kind or by its own, is verified with the same: one with a controller as a circuit
-- that plays the system, one with a counter-strategy as one that plays the environment.
pub record AcceptedAreVerified : Type 0 where
  pub controllers : (text : List ℕ) (given : Option Kind) (bytes : List ℕ) (d : Document) (n : ℕ) (a : IsAcceptedSolved text given bytes d) → d.verdict ≡ Realizable n
      → (line : List ℕ) (ended : ℕ) → CircuitAnswers System text given bytes line ended → IsVerifiedAs System a.known line ended
  pub counter_strategies : (text : List ℕ) (given : Option Kind) (bytes : List ℕ) (d : Document) (n : ℕ) (a : IsAcceptedSolved text given bytes d) → d.verdict ≡ Unrealizable n
      → (line : List ℕ) (ended : ℕ) → CircuitAnswers Environment text given bytes line ended → IsVerifiedAs Environment a.known line ended
