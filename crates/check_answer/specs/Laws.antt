-- Laws of the answers of `check` (this project's own).
use Rattle.std.specs.Prelude.{◌≡◌, ℕ, ◌⊎◌, List, Some}
use Rattle.letters_and_lassos.specs.declared.kinds.Kind.TheVariants.{Mealy}
use Rattle.spec_faults.specs.declared.code.SpecCode.{SpecCode}
use Rattle.spec_problems.specs.OfText.{IsFirstFault}
use Rattle.document_text.specs.Parts.{Document}
use Rattle.document_text.specs.States.{States}
use Rattle.document_check.specs.Holds.{HoldsFor}
use Rattle.document_check.specs.FirstBad.{IsFirstBadFor}
use Rattle.program_replies.specs.Lines.{line_refusal, refusal_line}
use Rattle.solved_text.specs.Parts as solved
use Rattle.solved_text.specs.Reading.{IsSixth}
use Rattle.solved_text.specs.States as solved_states
use Rattle.solve_check.specs.FirstBad.{IsFirstBadSolved}
use Rattle.solve_check.specs.Holds.{HoldsSolved}
use Rattle.solve_check.specs.Line as solved_line
use Rattle.check_answer.specs.Answer.{CheckAnswers, GivenToCheck, GivenToSolved, IsUntested, accepted_line, facts_to_check}

-- A text and a certificate have one answer. Of the versions before 6: status 1 where the text has a fault, 40 where the certificate has
-- a bad line for the text, and 0 where it states a document that holds for the text. Of version 6 the same of the text as `solve` takes
-- it.
pub record ChecksAreDetermined : Type 0 where
  pub of_fault : (text certificate bytes : List ℕ) (status : ℕ) (code : SpecCode) (position : ℕ) → CheckAnswers text certificate bytes status
      → IsFirstFault text (Some Mealy) code position → IsUntested text certificate → (status ≡ 1) × (bytes ≡ refusal_line code position)
  pub of_bad_line : (text certificate bytes : List ℕ) (status : ℕ) (g : GivenToCheck text) (n : ℕ) → CheckAnswers text certificate bytes status
      → (IsSixth certificate → ⊥) → IsFirstBadFor (facts_to_check g) certificate n → (status ≡ 40) × (bytes ≡ line_refusal n)
  pub of_document : (text certificate bytes : List ℕ) (status : ℕ) (g : GivenToCheck text) (d : Document) → CheckAnswers text certificate bytes status
      → (IsSixth certificate → ⊥) → States certificate d → HoldsFor (facts_to_check g) d → (status ≡ 0) × (bytes ≡ accepted_line d.verdict d.kind)
  pub of_solved_bad_line : (text certificate bytes : List ℕ) (status : ℕ) (g : GivenToSolved text certificate) (n : ℕ)
      → CheckAnswers text certificate bytes status → IsFirstBadSolved g.known certificate n → (status ≡ 40) × (bytes ≡ line_refusal n)
  pub of_solved_document : (text certificate bytes : List ℕ) (status : ℕ) (g : GivenToSolved text certificate) (d : solved.Document)
      → CheckAnswers text certificate bytes status → solved_states.States certificate d → HoldsSolved g.known d
      → (status ≡ 0) × (bytes ≡ solved_line.accepted_line (solved_line.acceptance_of g.known d))
  pub statuses : (text certificate bytes : List ℕ) (status : ℕ) → CheckAnswers text certificate bytes status → (status ≡ 0) ⊎ ((status ≡ 1) ⊎ (status ≡ 40))
