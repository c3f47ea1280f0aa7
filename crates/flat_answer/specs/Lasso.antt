-- The answer of `lasso` to a text and a word (this project's own). No kind is given, so those that the text names count.
use Rattle.std.specs.Prelude.{◌≡◌, ℕ, Bool, true, false, List, None, codes}
use Rattle.text_limits.specs.declared.TheConstants.{SMALL_LIMITS}
use Rattle.letters_and_lassos.specs.Word.{Word}
use Rattle.spec_faults.specs.declared.code.SpecCode.{SpecCode}
use Rattle.tlsf_syntax.specs.Text.{Text}
use Rattle.tlsf_reader.specs.Reads.{Reads}
use Rattle.tlsf_expand.specs.Meaning.{means}
use Rattle.tlsf_expand.specs.FlatText.{FlatText}
use Rattle.flat_text.specs.FlatOf.{IsFlatFault, IsFlatOf}
use Rattle.flat_lines.specs.FlatLines.{all_names}
use Rattle.lasso_word.specs.WordText.{IsFirstBadWordLine, StatesWord}
use Rattle.program_replies.specs.Lines.{line_refusal, refusal_line}

abbrev pub truth_line : Bool → List ℕ
truth_line true = codes "true\n"
truth_line false = codes "false\n"

-- The word states a lasso over the signals of the text, the inputs first, and this is whether the written text means so on it.
pub record IsTruthOn (text word : List ℕ) (truth : Bool) : Type 0 where
  pub tree : Text
  pub reads : Reads text tree
  pub flat : FlatText
  pub is_flat : IsFlatOf SMALL_LIMITS text None flat
  pub lasso : Word
  pub states : StatesWord word (all_names flat.expanded) lasso
  pub exactly : truth ≡ means SMALL_LIMITS lasso tree

-- The bytes and the status: the line of the text's first fault of those before normal forms, that of the word's first bad line over
-- the signals of the text, or whether the text means so on the lasso.
pub data LassoAnswers (text word bytes : List ℕ) (status : ℕ) : Type 0 where
  refused : (code : SpecCode) (place : ℕ) → status ≡ 1 → IsFlatFault SMALL_LIMITS text None code place → bytes ≡ refusal_line code place
      → LassoAnswers text word bytes status
  bad_line : (flat : FlatText) (line : ℕ) → status ≡ 40 → IsFlatOf SMALL_LIMITS text None flat → IsFirstBadWordLine word (all_names flat.expanded) line
      → bytes ≡ line_refusal line → LassoAnswers text word bytes status
  told : (truth : Bool) → status ≡ 0 → IsTruthOn text word truth → bytes ≡ truth_line truth
      → LassoAnswers text word bytes status
