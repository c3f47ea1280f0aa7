-- How the answers of `check` are made (this project's own).
use Rattle.std.specs.Prelude.{◌≡◌, ⊤, ℕ, List, Option, Some, MatchOption}
use Rattle.letters_and_lassos.specs.declared.kinds.Kind.{Kind}
use Rattle.letters_and_lassos.specs.declared.kinds.Kind.TheVariants.{Mealy}
use Rattle.tlsf_expand.specs.FlatText.{spec_seen}
use Rattle.spec_problems.specs.declared.texts.TextProblems.{TextProblems}
use Rattle.spec_problems.specs.OfFormula.{AreProblems}
use Rattle.spec_problems.specs.OfText.{IsFirstFault}
use Rattle.document_text.specs.declared.documents.DocumentFault.{DocumentFault}
use Rattle.document_text.specs.declared.documents.DocumentFault.TheVariants as fault
use Rattle.document_text.specs.declared.documents.Verdict.{Verdict}
use Rattle.document_check.specs.Facts.{Facts}
use Rattle.document_check.specs.Shown.{AreFacts}
use Rattle.text_ground.specs.declared.texts.Problems.{Problems}
use Rattle.text_ground.specs.declared.texts.Problems.TheVariants.{Of, Refused}
use Rattle.text_ground.specs.Ground.{given_by}
use Rattle.text_ground.specs.Texts.{IsTextWith}
use Rattle.solve_ground.specs.SolveText.{IsSolveFault}
use Rattle.solved_text.specs.declared.header.Header.{Header}
use Rattle.solved_text.specs.Reading.{Reads, SolvedLines}
use Rattle.program_replies.specs.Lines.{line_refusal}
use Rattle.program_replies.specs.Refusals.{RefusedBy}
use Rattle.program_replies.specs.declared.replies.Reply.{Reply as AReply}
use Rattle.program_replies.specs.Statuses.{status_number}
use Rattle.program_replies.specs.declared.replies.Status.{Status}
use Rattle.program_replies.specs.declared.replies.Status.TheVariants as ended
use Rattle.check_answer.specs.declared.answering.TextForCheck.{TextForCheck}
use Rattle.check_answer.specs.declared.answering.TextForCheck.TheVariants as ready
use Rattle.check_answer.specs.Answer.{CheckAnswers, IsTakenBySolve, accepted_line}
use Rattle.machine_model.specs.declared.counting.Counts.TheVariants.{Whole}

-- what a text with its problems gives to the test of documents
abbrev pub facts_for_check : TextProblems → Facts
facts_for_check t = given_by (spec_seen t.spec) t.problems

-- a text that was read and expanded, with a kind given, and its problems
pub record IsForCheck (text : List ℕ) (t : TextProblems) : Type 0 where
  pub text_with : IsTextWith Whole text (Some Mealy) (spec_seen t.spec) t.problems
  pub facts : AreFacts (facts_for_check t)
  pub meet : AreProblems t.problems

-- a text's problems, or the reply to its first fault
abbrev pub AreForCertificates : List ℕ → Problems → Type 0
AreForCertificates text (Of t) = IsForCheck text t
AreForCertificates text (Refused r) = RefusedBy (IsFirstFault text (Some Mealy)) r.bytes.items (status_number r.status)

-- `solve` takes the text, or a reply answers it with whatever certificate
abbrev pub AreForCheck : List ℕ → TextForCheck → Type 0
AreForCheck text ready.Taken = IsTakenBySolve text
AreForCheck text (ready.Refused r) = (certificate : List ℕ) → CheckAnswers text certificate r.bytes.items (status_number r.status)

-- no fault, or the reply to the first one, of the text as `solve` takes it
abbrev pub IsFaultForSolve : List ℕ → Option AReply → Type 0
IsFaultForSolve text found =
    MatchOption found (IsTakenBySolve text) (λ r. RefusedBy (IsSolveFault text (Some Mealy)) r.bytes.items (status_number r.status))

-- what is read of the bytes has this header
pub record IsHeaderOf (bytes : List ℕ) (header : Header) : Type 0 where
  pub lines : SolvedLines
  pub reads : Reads bytes lines
  pub is : header ≡ lines.header

-- the bytes and the status for a fault of a document; for want of memory there are none
abbrev pub IsLineRefusal : DocumentFault → List ℕ → Status → Type 0
IsLineRefusal (fault.BadLine n) bytes status = (bytes ≡ line_refusal n) × (status ≡ ended.LineRefused)
IsLineRefusal fault.NoMemory bytes status = ⊥

-- the bytes and the status for a document that holds, with this verdict and kind
abbrev pub IsAcceptance : Verdict → Kind → List ℕ → Status → Type 0
IsAcceptance verdict kind bytes status = (bytes ≡ accepted_line verdict kind) × (status ≡ ended.Done)
