-- How the answers of `solve` are made (this project's own).
use Rattle.std.specs.Prelude.{◌≡◌, ℕ, ◌≤◌, List, [], Option, None, All, IfSome, length, is_some}
use Rattle.letters_and_lassos.specs.declared.kinds.Kind.{Kind}
use Rattle.letters_and_lassos.specs.declared.kinds.Side.{Side}
use Rattle.letters_and_lassos.specs.declared.kinds.Side.TheVariants.{System, Environment}
use Rattle.ltl_formula.specs.declared.nodes.FormulaId.{FormulaId}
use Rattle.ltl_formula.specs.Nodes.{tree_at}
use Rattle.ltl_formula.specs.NormalForm.{IsNormal}
use Rattle.program_replies.specs.declared.replies.Reply.{Reply}
use Rattle.program_replies.specs.declared.replies.Status.{Status}
use Rattle.program_replies.specs.declared.replies.Status.TheVariants as ended
use Rattle.program_replies.specs.Statuses.{status_number}
use Rattle.solve_ground.specs.declared.texts.SolveText.{SolveText}
use Rattle.solve_ground.specs.SolveText.{IsSolveText}
use Rattle.solved_text.specs.declared.documents.Verdict.{Verdict}
use Rattle.solved_text.specs.declared.documents.Verdict.TheVariants.{Realizable, Unrealizable, Unknown}
use Rattle.solved_text.specs.Parts.{Document, SizeLog}
use Rattle.solved_text.specs.Reading.{Reads, SolvedLines}
use Rattle.solved_text.specs.States.{States}
use Rattle.solve_check.specs.Checked.{IsReady}
use Rattle.solve_answer.specs.declared.refuting.Refuting.{Refuting}
use Rattle.solve_answer.specs.Answer.{LogLimits, SolveAnswers}

-- both forms of a text's whole stand in its list, in normal form, and its signals are few
pub record CanBePlayed (t : SolveText) : Type 0 where
  pub ready : IsReady t
  pub negated : IsNormal (tree_at t.formulas t.negated)
  pub normal : IsNormal (tree_at t.formulas t.normal)

-- what a side keeps from being true
abbrev pub form_for : SolveText → Side → FormulaId
form_for t System = t.negated
form_for t Environment = t.normal

-- the status of a document of this verdict
abbrev pub status_of : Verdict → Status
status_of (Realizable n) = ended.Realizable
status_of (Unrealizable n) = ended.Unrealizable
status_of Unknown = ended.Unknown

-- the document that says that neither was found
abbrev pub unknown_document : SolveText → Document
unknown_document t = record { verdict = Unknown; kind = t.kind; converted = is_some t.semantics; circuit = None; logs = []; annotation = [] }

-- what may be refuted, of what is to be refuted
abbrev pub limits_of : Refuting → LogLimits
limits_of refuting = record { max = refuting.max; entries = refuting.entries }

-- whatever document the bytes state, each of its logs has no more entries than so many, where there is a limit
abbrev pub HaveShortLogs : Option ℕ → List ℕ → Type 0
HaveShortLogs entries bytes = (d : Document) → States bytes d → IfSome entries (λ most. All (λ l. length l.entries ≤ most) d.logs)

-- what is read of the bytes has these logs
pub record AreLogsOf (bytes : List ℕ) (logs : List SizeLog) : Type 0 where
  pub lines : SolvedLines
  pub reads : Reads bytes lines
  pub are : logs ≡ lines.logs

-- the reply answers each text of which this is known
abbrev pub AnswersEach : SolveText → Refuting → Reply → Type 0
AnswersEach t refuting r =
    (text : List ℕ) (given : Option Kind) → IsSolveText text given t → SolveAnswers text given (limits_of refuting) r.bytes.items (status_number r.status)
