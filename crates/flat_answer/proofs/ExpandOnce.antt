-- A text has one answer to `expand`.
use Rattle.std.proofs.Common.{◌≡◌, ℕ, List, [], ◌∷◌, None, Contains, sym, ap, ◌∙◌, arith}
use Rattle.text_limits.specs.declared.TheConstants.{SMALL_LIMITS}
use Rattle.spec_faults.specs.declared.code.SpecCode.{SpecCode}
use Rattle.tlsf_expand.specs.FlatText.{FlatText}
use Rattle.flat_text.specs.FlatOf.{IsFlatFault, IsFlatOf}
use Rattle.flat_text.specs.Laws.{FlatFaultsAreDetermined, FlatTextsAreDetermined, FlatTextsHaveNoFault}
use Rattle.flat_lines.specs.FlatLines.{flat_bytes}
use Rattle.program_replies.specs.Lines.{refusal_line}
use Rattle.program_replies.proofs.RefusalLemmas.{one_refusal}
use Rattle.flat_answer.specs.Expand.{ExpandAnswers, refused, written}
use Rattle.flat_answer.specs.Laws.{ExpandAnswersAreDue, HasFlatFault}

statuses : (text bytes : List ℕ) (status : ℕ) → ExpandAnswers text bytes status → Contains (0 ∷ 1 ∷ []) status
statuses text bytes status (refused code place is fault line) = (1, omega arith, sym is)
statuses text bytes status (written flat is is_flat line) = (0, omega arith, sym is)

has_fault : (text bytes : List ℕ) (status : ℕ) → ExpandAnswers text bytes status → status ≡ 1 → HasFlatFault text
has_fault text bytes status (refused code place is fault line) one = record { code = code; place = place; fault = fault }
has_fault text bytes status (written flat is is_flat line) one = absurd (omega (arith, is, one))

module _ (one_fault : FlatFaultsAreDetermined) (one_flat : FlatTextsAreDetermined) (apart : FlatTextsHaveNoFault) where
  of_fault : (text bytes : List ℕ) (status : ℕ) (code : SpecCode) (place : ℕ) → ExpandAnswers text bytes status → IsFlatFault SMALL_LIMITS text None code place → (status ≡ 1) × (bytes ≡ refusal_line code place)
  of_fault text bytes status code place (refused c p is fault line) due =
      let same = one_fault SMALL_LIMITS text None c code p place fault due in (is, line ∙ one_refusal c code p place same.0 same.1)
  of_fault text bytes status code place (written flat is is_flat line) due = absurd (apart SMALL_LIMITS text None flat code place is_flat due)

  of_flat : (text bytes : List ℕ) (status : ℕ) (flat : FlatText) → ExpandAnswers text bytes status → IsFlatOf SMALL_LIMITS text None flat → (status ≡ 0) × (bytes ≡ flat_bytes flat)
  of_flat text bytes status flat (refused code place is fault line) due = absurd (apart SMALL_LIMITS text None flat code place due fault)
  of_flat text bytes status flat (written other is is_flat line) due = (is, line ∙ ap flat_bytes (one_flat SMALL_LIMITS text None other flat is_flat due))

  pub are_due : ExpandAnswersAreDue
  are_due = record { statuses = statuses; refused = has_fault; of_fault = of_fault; of_flat = of_flat }
