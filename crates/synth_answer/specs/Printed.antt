-- What is printed as an answer: a document that holds for what it stands on (this project's own).
use Rattle.std.specs.Prelude.{◌≡◌, ℕ, ◌≤◌, List, Option, Some, All}
use Rattle.letters_and_lassos.specs.declared.kinds.Kind.{Kind}
use Rattle.ltl_formula.specs.declared.nodes.Node.{Node}
use Rattle.refutation_log.specs.Teaches.{IsTaught}
use Rattle.spec_problems.specs.declared.sides.SideProblems.{SideProblems}
use Rattle.synth_engine.specs.declared.settings.Settings.{Settings}
use Rattle.synth_engine.specs.Logs.{base_at}
use Rattle.document_text.specs.Parts.{Document}
use Rattle.document_text.specs.States.{States}
use Rattle.document_check.specs.Facts.{Facts}
use Rattle.document_check.specs.Holds.{HoldsFor}
use Rattle.document_check.specs.FirstBad.{IsFirstBadFor}
use Rattle.text_ground.specs.Ground.{AreProblemsOn, Ground, IsGroundOf, facts_on}
use Rattle.synth_answer.specs.Holds.{ForLog, document_version}

-- The bytes are a document of the settings' version with the kind of the system's machines and the settings' numbers, which holds for the text: the
-- test of documents finds no bad line. Each log is taught, and each entry is of a worker that was asked for, or of the caller, whose
-- number is 0.
pub record IsPrinted (x : Facts) (settings : Settings) (bytes : List ℕ) (d : Document) : Type 0 where
  pub states : States bytes d
  pub holds : HoldsFor x d
  pub no_bad_line : (n : ℕ) → IsFirstBadFor x bytes n → ⊥
  pub version : d.version ≡ document_version settings.counts
  pub kind : d.kind ≡ x.system.kind
  pub max : d.max ≡ settings.max
  pub entries : d.entries ≡ settings.entries
  pub taught : All (ForLog x (λ p l. IsTaught (base_at p l.size) l.entries)) d.logs
  pub by : All (λ l. All (λ e. e.by ≤ settings.workers) l.entries) d.logs

-- What is answered, over base clauses of the settings' version, and a document that is printed for it. `IsGround` says which ground what is answered
-- has with which kind; with the document's kind, as the test of documents takes it, it has the same one.
pub record PrintedFor (IsGround : Option Kind → Ground → Type 0) (kind : Option Kind) (settings : Settings) (bytes : List ℕ) : Type 0 where
  pub ground : Ground
  pub is_ground : IsGround kind ground
  pub later : List Node
  pub problems : SideProblems
  pub are_problems : AreProblemsOn settings.counts ground later problems
  pub document : Document
  pub by_its_kind : IsGround (Some document.kind) ground
  pub is_printed : IsPrinted (facts_on ground problems) settings bytes document

-- a document that is printed for a text
abbrev pub Printed : List ℕ → Option Kind → Settings → List ℕ → Type 0
Printed text kind settings bytes = PrintedFor (IsGroundOf text) kind settings bytes
