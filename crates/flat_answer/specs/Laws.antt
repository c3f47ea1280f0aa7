-- Laws of the answers, by which each comes exactly where it is due.
use Rattle.std.specs.Prelude.{◌≡◌, ℕ, List, [], ◌∷◌, None, Contains}
use Rattle.text_limits.specs.declared.TheConstants.{SMALL_LIMITS}
use Rattle.letters_and_lassos.specs.Word.{Word}
use Rattle.spec_faults.specs.declared.code.SpecCode.{SpecCode}
use Rattle.tlsf_syntax.specs.Text.{Text}
use Rattle.tlsf_reader.specs.Reads.{Reads}
use Rattle.tlsf_expand.specs.Meaning.{means}
use Rattle.tlsf_expand.specs.FlatText.{FlatText}
use Rattle.flat_text.specs.FlatOf.{IsFlatFault, IsFlatOf}
use Rattle.flat_lines.specs.FlatLines.{all_names, flat_bytes}
use Rattle.lasso_word.specs.WordText.{IsFirstBadWordLine, StatesWord}
use Rattle.program_replies.specs.Lines.{line_refusal, refusal_line}
use Rattle.flat_answer.specs.Expand.{ExpandAnswers}
use Rattle.flat_answer.specs.Lasso.{LassoAnswers, truth_line}

-- the text has a fault of those before normal forms
pub record HasFlatFault (text : List ℕ) : Type 0 where
  pub code : SpecCode
  pub place : ℕ
  pub fault : IsFlatFault SMALL_LIMITS text None code place

-- the text has none, and the word a first bad line over its signals
pub record HasBadWordLine (text word : List ℕ) : Type 0 where
  pub flat : FlatText
  pub is_flat : IsFlatOf SMALL_LIMITS text None flat
  pub line : ℕ
  pub first : IsFirstBadWordLine word (all_names flat.expanded) line

-- An answer to `expand` has status 0 or 1. It has status 1 exactly where the text has a fault, and is that fault's line; and else it
-- is the flat text.
pub record ExpandAnswersAreDue : Type 0 where
  pub statuses : (text bytes : List ℕ) (status : ℕ) → ExpandAnswers text bytes status → Contains (0 ∷ 1 ∷ []) status
  pub refused : (text bytes : List ℕ) (status : ℕ) → ExpandAnswers text bytes status → status ≡ 1 → HasFlatFault text
  pub of_fault : (text bytes : List ℕ) (status : ℕ) (code : SpecCode) (place : ℕ) → ExpandAnswers text bytes status
      → IsFlatFault SMALL_LIMITS text None code place → (status ≡ 1) × (bytes ≡ refusal_line code place)
  pub of_flat : (text bytes : List ℕ) (status : ℕ) (flat : FlatText) → ExpandAnswers text bytes status
      → IsFlatOf SMALL_LIMITS text None flat → (status ≡ 0) × (bytes ≡ flat_bytes flat)

-- An answer to `lasso` has status 0, 1 or 40. It has status 1 exactly where the text has a fault, and is that fault's line, whatever
-- the word is. Else it has status 40 exactly where the word has a first bad line over the signals of the text, and is that line's; and
-- where the word states a lasso, it tells whether the text means so on it.
pub record LassoAnswersAreDue : Type 0 where
  pub statuses : (text word bytes : List ℕ) (status : ℕ) → LassoAnswers text word bytes status → Contains (0 ∷ 1 ∷ 40 ∷ []) status
  pub refused : (text word bytes : List ℕ) (status : ℕ) → LassoAnswers text word bytes status → status ≡ 1 → HasFlatFault text
  pub line_refused : (text word bytes : List ℕ) (status : ℕ) → LassoAnswers text word bytes status → status ≡ 40 → HasBadWordLine text word
  pub of_fault : (text word bytes : List ℕ) (status : ℕ) (code : SpecCode) (place : ℕ) → LassoAnswers text word bytes status
      → IsFlatFault SMALL_LIMITS text None code place → (status ≡ 1) × (bytes ≡ refusal_line code place)
  pub of_bad_line : (text word bytes : List ℕ) (status : ℕ) (flat : FlatText) (line : ℕ) → LassoAnswers text word bytes status
      → IsFlatOf SMALL_LIMITS text None flat → IsFirstBadWordLine word (all_names flat.expanded) line → (status ≡ 40) × (bytes ≡ line_refusal line)
  pub of_lasso : (text word bytes : List ℕ) (status : ℕ) (tree : Text) (flat : FlatText) (lasso : Word) → LassoAnswers text word bytes status
      → Reads text tree → IsFlatOf SMALL_LIMITS text None flat → StatesWord word (all_names flat.expanded) lasso
      → (status ≡ 0) × (bytes ≡ truth_line (means SMALL_LIMITS lasso tree))
