-- What `check` says of the documents that `synth`, `batch` and `core` print (this project's own).
use Rattle.std.specs.Prelude.{◌≡◌, ◌≢◌, ℕ, Bool, List, Option, Some, None}
use Rattle.letters_and_lassos.specs.declared.kinds.Kind.{Kind}
use Rattle.ltl_formula.specs.declared.nodes.Node.{Node}
use Rattle.tlsf_syntax.specs.Text.{Text}
use Rattle.tlsf_reader.specs.Reads.{Reads}
use Rattle.tlsf_expand.specs.Expansion.{kind_of}
use Rattle.spec_faults.specs.declared.code.SpecCode.{SpecCode}
use Rattle.spec_problems.specs.declared.sides.SideProblems.{SideProblems}
use Rattle.synth_engine.specs.declared.settings.Settings.{Settings}
use Rattle.document_text.specs.declared.documents.Verdict.{Verdict}
use Rattle.document_text.specs.Parts.{Document}
use Rattle.document_text.specs.States.{States}
use Rattle.document_check.specs.Holds.{HoldsFor}
use Rattle.document_check.specs.FirstBad.{IsFirstBadFor}
use Rattle.program_replies.specs.Lines.{refusal_line}
use Rattle.program_replies.specs.Statuses.{status_number}
use Rattle.text_ground.specs.Ground.{AreProblemsOn, Ground, facts_on}
use Rattle.synth_answer.specs.Answer.{Answers}
use Rattle.synth_answer.specs.Reply.{verdict_status}
use Rattle.check_answer.specs.Answer.{CheckAnswers, accepted_line}
use Rattle.batch_run.specs.Answers.{AreAnswers}
use Rattle.batch_answer.specs.Batch.{BatchAnswers, Part}
use Rattle.core_answer.specs.Core.{CoreAnswers, EachHas, IsCore, numbers, without}
use Rattle.core_answer.specs.Over.{IsGroundOver}
use Rattle.machine_model.specs.declared.counting.Counts.{Counts}

-- == a document that is printed for a text ==

-- the status with which a document of this verdict is answered
abbrev pub status_told : Verdict → ℕ
status_told verdict = status_number (verdict_status verdict)

-- The bytes state a document, whose verdict goes with the status that they were printed with, and whose kind is the one that was given,
-- else the text's own. Whatever `check` answers to the text and these bytes has status 0, and its line tells that verdict and that kind.
pub record IsAccepted (text : List ℕ) (kind : Option Kind) (bytes : List ℕ) (status : ℕ) : Type 0 where
  pub document : Document
  pub states : States bytes document
  pub verdict : status ≡ status_told document.verdict
  pub kind_is : (tree : Text) → Reads text tree → kind_of kind tree ≡ Some document.kind
  pub checked : (line : List ℕ) (ended : ℕ) → CheckAnswers text bytes line ended
      → (ended ≡ 0) × (line ≡ accepted_line document.verdict document.kind)

-- so are the lines of a part of a batch, unless they are those of a refusal
pub record PartIsAccepted (text : List ℕ) (part : Part) : Type 0 where
  pub accepted : part.status ≢ 1 → IsAccepted text None part.lines part.status

-- == a document over some guarantees ==

-- The bytes state a document that holds for the text with these guarantees, and no line of them is bad, with whatever kind the text is
-- taken, and whatever the numbers of the problems count that are made of its list of formulas: the document's own count.
pub record IsGoodOver (text : List ℕ) (keep : List Bool) (bytes : List ℕ) : Type 0 where
  pub document : Document
  pub states : States bytes document
  pub holds : (given : Option Kind) (counts : Counts) (g : Ground) (later : List Node) (s : SideProblems) → IsGroundOver text keep given g
      → AreProblemsOn counts g later s → HoldsFor (facts_on g s) document
  pub no_bad_line : (given : Option Kind) (counts : Counts) (g : Ground) (later : List Node) (s : SideProblems) (n : ℕ) → IsGroundOver text keep given g
      → AreProblemsOn counts g later s → IsFirstBadFor (facts_on g s) bytes n → ⊥

-- the line of a refusal, or such a document
pub data IsRefusedOrGood (text : List ℕ) (keep : List Bool) (bytes : List ℕ) : Type 0 where
  of_refusal : (code : SpecCode) (position : ℕ) → bytes ≡ refusal_line code position → IsRefusedOrGood text keep bytes
  of_document : IsGoodOver text keep bytes → IsRefusedOrGood text keep bytes

-- the document over the guarantees that are kept, and what comes without each of them
pub record HasGoodParts (text : List ℕ) (kind : Option Kind) (settings : Settings) (bytes : List ℕ) (core : IsCore text kind settings bytes) : Type 0 where
  pub kept : IsGoodOver text core.told.keep core.told.document
  pub others : EachHas (λ n part. IsRefusedOrGood text (without n core.told.keep) part) (numbers core.told.keep) core.told.others

-- == the law ==

-- What `synth` prints for a text, whatever kind is given, whatever bounds the search and whatever is counted, `check` accepts, unless it
-- is the line of a refusal. So it does what `batch` prints for each of its texts, and the documents that `core` hands through: those of
-- status 10, 11 and 30. In the documents inside the answer of status 20 of `core` no line is bad for the text with their guarantees.
pub record PrintedIsAccepted : Type 0 where
  pub by_synth : (text : List ℕ) (kind : Option Kind) (settings : Settings) (bytes : List ℕ) (status : ℕ) → Answers text kind settings bytes status
      → status ≢ 1 → IsAccepted text kind bytes status
  pub by_batch : (names texts : List (List ℕ)) (settings : Settings) (bytes : List ℕ) (b : BatchAnswers names texts settings bytes)
      → AreAnswers PartIsAccepted texts b.parts
  pub by_core : (text : List ℕ) (kind : Option Kind) (settings : Settings) (bytes : List ℕ) (status : ℕ) → CoreAnswers text kind settings bytes status
      → status ≢ 1 → status ≢ 20 → IsAccepted text kind bytes status
  pub in_core : (text : List ℕ) (kind : Option Kind) (settings : Settings) (bytes : List ℕ) (core : IsCore text kind settings bytes)
      → HasGoodParts text kind settings bytes core
