-- What the test of a document answers, from what its parts find.
use Rattle.std.proofs.Common.{◌≡◌, ℕ, Option, Some, None, List, length, sym, ap, subst, ◌∙◌}
use Rattle.std.specs.Prelude.{IfSome, MatchOption, unwrap_or}
use Rattle.letters_and_lassos.specs.declared.kinds.Kind.{Kind}
use Rattle.aiger_text.specs.Circuit.{Circuit}
use Rattle.document_text.specs.Reading.{circuit_in}
use Rattle.size_refutations.specs.Laws.{LogsAreDetermined}
use Rattle.solve_ground.specs.declared.texts.SolveText.{SolveText}
use Rattle.solve_ground.specs.SolveText.{IsSolveText}
use Rattle.solved_text.specs.declared.documents.Verdict.{Verdict}
use Rattle.solved_text.specs.Laws.{IsStated, SolvedAreDetermined}
use Rattle.solved_text.specs.Parts.{Document, SizeLog}
use Rattle.solved_text.specs.Reading.{Reads, SolvedLines}
use Rattle.solve_check.specs.declared.acceptance.Acceptance.{Acceptance}
use Rattle.solve_check.specs.Checked.{HoldsAs, IsAcceptedAs}
use Rattle.solve_check.specs.FirstBad.{Annotated, IsFirstBadSolved, LinesFail, annotated_in, circuit_line, of_line, of_pairs}
use Rattle.solve_check.specs.Line.{acceptance_of}
use Rattle.solve_check.specs.Parts.{AreLaws, IsClaimed, IsShown, IsSoundCircuit, TellsOf}
use Rattle.solve_check.proofs.Accepted.{accepted_as}
use Rattle.solve_check.proofs.Held.{IsDocumentOf, document_is, holds}
use Rattle.circuit_names.proofs.Fitting.{earliest_none}

-- what is told of good lines is what is told of the document that they state
told_of : (t : SolveText) (bytes : List ℕ) (lines : SolvedLines) (d : Document) (a : Acceptance) → IsDocumentOf bytes lines d → TellsOf t lines a → a ≡ acceptance_of t d
told_of t bytes lines d a is tells =
    let verdict : a.verdict ≡ d.verdict = ap (λ (o : Option Verdict). unwrap_or o a.verdict) (sym tells.verdict ∙ is.verdict) in
    let kind : a.kind ≡ d.kind = ap (λ (o : Option Kind). unwrap_or o a.kind) (sym tells.kind ∙ is.kind) in
    let refuted : a.refuted ≡ length d.logs = tells.refuted ∙ ap (length {A = SizeLog}) is.logs in
    let semantics = tells.semantics in
    λ i. record { verdict = verdict i; kind = kind i; semantics = semantics i; refuted = refuted i }

module _ (t : SolveText) (bytes : List ℕ) (lines : SolvedLines) (reads : Reads bytes lines) where
  pub bad_line : (n : ℕ) → LinesFail t bytes lines (Some n) → IsFirstBadSolved t bytes n
  bad_line n fails = of_line lines n reads fails

  claim_by : (n : ℕ) → LinesFail t bytes lines None → (o : Option Annotated) → MatchOption o (◌≡◌ {A = Option ℕ} (Some n) None) (λ a. IsShown t bytes lines a (Some n))
      → IsFirstBadSolved t bytes n
  claim_by n none None never = absurd (cc)
  claim_by n none (Some a) shown =
      subst (λ (k : ℕ). IsFirstBadSolved t bytes k) (sym shown.told.line)
      (of_pairs lines a shown.named shown.told.fault reads none shown.annotation shown.told.some shown.told.cause)

  pub bad_claim : (n : ℕ) → LinesFail t bytes lines None → IsClaimed t bytes lines (Some n) → IsFirstBadSolved t bytes n
  bad_claim n none claimed = claim_by n none (annotated_in lines) claimed

  module _ (determined : SolvedAreDetermined) (law : LogsAreDetermined) (none : LinesFail t bytes lines None) (claimed : IsClaimed t bytes lines None) (a : Acceptance) (tells : TellsOf t lines a) where
    good_text : lines.bad ≡ None
    good_text = (earliest_none lines.bad _ (earliest_none (circuit_line t bytes lines.header lines.circuit) _ (sym none.first_is)).1).0

    stated : IsStated bytes lines
    stated = determined.good_lines bytes lines reads good_text

    is_document : IsDocumentOf bytes lines stated.document
    is_document = document_is bytes lines stated.document stated.of_lines

    -- where no line fails and nothing is claimed wrongly, the document holds
    pub good : HoldsAs t bytes a
    good = record {
      document = stated.document;
      states = stated.states;
      holds = holds law t bytes lines stated.document is_document none stated.states claimed;
      told = told_of t bytes lines stated.document a is_document tells;
    }

  -- and what it says is true of what the text wants
  pub means : AreLaws → LinesFail t bytes lines None → IsClaimed t bytes lines None → (a : Acceptance) → TellsOf t lines a → IfSome (circuit_in lines.circuit) IsSoundCircuit
      → (text : List ℕ) (given : Option Kind) → IsSolveText text given t → IsAcceptedAs text given bytes a
  means laws none claimed a tells sound text given is =
      let s : IsStated bytes lines = stated laws.documents laws.logs none claimed a tells in
      let d : IsDocumentOf bytes lines s.document = is_document laws.documents laws.logs none claimed a tells in
      let its : IfSome s.document.circuit IsSoundCircuit = subst (λ (o : Option Circuit). IfSome o IsSoundCircuit) d.circuit sound in
      accepted_as laws text given t is s.document its bytes a s.states (holds laws.logs t bytes lines s.document d none s.states claimed) (told_of t bytes lines s.document a d tells)
