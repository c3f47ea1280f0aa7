-- The answer of `solve` to a text, with its status (this project's own). Nothing is said of how a circuit was found: the document that
-- is printed is one that the test of documents accepts, and what that means is said there.
use Rattle.std.specs.Prelude.{◌≡◌, ◌≤◌, ℕ, List, Option, All, IfSome, length}
use Rattle.letters_and_lassos.specs.declared.kinds.Kind.{Kind}
use Rattle.spec_faults.specs.declared.code.SpecCode.{SpecCode}
use Rattle.program_replies.specs.Lines.{refusal_line}
use Rattle.solve_ground.specs.SolveText.{IsSolveFault}
use Rattle.solved_text.specs.declared.documents.Verdict.{Verdict}
use Rattle.solved_text.specs.declared.documents.Verdict.TheVariants.{Realizable, Unrealizable, Unknown}
use Rattle.solved_text.specs.Parts.{Document, SizeLog}
use Rattle.solve_check.specs.Accepted.{IsAcceptedSolved}

-- how far a document may refute: no more sizes than so many, where that is given, and none by a log of more entries than so many, where
-- there is a limit
pub record LogLimits : Type 0 where
  pub max : Option ℕ
  pub entries : Option ℕ

-- the logs keep within both
pub record KeepWithin (limits : LogLimits) (logs : List SizeLog) : Type 0 where
  pub sizes : IfSome limits.max (λ most. length logs ≤ most)
  pub entries : IfSome limits.entries (λ most. All (λ l. length l.entries ≤ most) logs)

-- the bytes are a document of this verdict that is accepted for the text, and its logs keep within the limits that are asked for
pub record Prints (text : List ℕ) (given : Option Kind) (limits : LogLimits) (bytes : List ℕ) (verdict : Verdict) : Type 0 where
  pub document : Document
  pub verdict_is : document.verdict ≡ verdict
  pub accepted : IsAcceptedSolved text given bytes document
  pub as_asked : KeepWithin limits document.logs

-- The bytes and the status that answer a text: the line of its first fault, a document with a controller, one with a counter-strategy,
-- or one that says that neither was found. What is refuted keeps within the limits.
pub data SolveAnswers (text : List ℕ) (given : Option Kind) (limits : LogLimits) (bytes : List ℕ) (status : ℕ) : Type 0 where
  refused : (code : SpecCode) (position : ℕ) → status ≡ 1 → IsSolveFault text given code position → bytes ≡ refusal_line code position
      → SolveAnswers text given limits bytes status
  realizable : (n : ℕ) → status ≡ 10 → Prints text given limits bytes (Realizable n) → SolveAnswers text given limits bytes status
  unrealizable : (n : ℕ) → status ≡ 20 → Prints text given limits bytes (Unrealizable n) → SolveAnswers text given limits bytes status
  unknown : status ≡ 30 → Prints text given limits bytes Unknown → SolveAnswers text given limits bytes status
