-- A text and a word have one answer to `lasso`.
use Rattle.std.proofs.Common.{◌≡◌, ℕ, List, [], ◌∷◌, None, Contains, sym, ap, ◌∙◌, subst, arith}
use Rattle.text_limits.specs.declared.TheConstants.{SMALL_LIMITS}
use Rattle.letters_and_lassos.specs.Word.{Word}
use Rattle.spec_faults.specs.declared.code.SpecCode.{SpecCode}
use Rattle.tlsf_syntax.specs.Text.{Text}
use Rattle.tlsf_reader.specs.Reads.{Reads, TreesAreDetermined}
use Rattle.tlsf_expand.specs.Meaning.{means}
use Rattle.tlsf_expand.specs.FlatText.{FlatText}
use Rattle.flat_text.specs.FlatOf.{IsFlatFault, IsFlatOf}
use Rattle.flat_text.specs.Laws.{FlatFaultsAreDetermined, FlatTextsAreDetermined, FlatTextsHaveNoFault}
use Rattle.flat_lines.specs.FlatLines.{all_names}
use Rattle.lasso_word.specs.WordText.{IsFirstBadWordLine, StatesWord}
use Rattle.lasso_word.specs.Stated.{ReadingsAreApart}
use Rattle.program_replies.specs.Lines.{line_refusal, refusal_line}
use Rattle.program_replies.proofs.RefusalLemmas.{one_refusal}
use Rattle.flat_answer.specs.Lasso.{LassoAnswers, truth_line, refused, bad_line, told}
use Rattle.flat_answer.specs.Laws.{HasBadWordLine, HasFlatFault, LassoAnswersAreDue}

statuses : (text word bytes : List ℕ) (status : ℕ) → LassoAnswers text word bytes status → Contains (0 ∷ 1 ∷ 40 ∷ []) status
statuses text word bytes status (refused code place is fault line) = (1, omega arith, sym is)
statuses text word bytes status (bad_line flat n is is_flat first line) = (2, omega arith, sym is)
statuses text word bytes status (told truth is on line) = (0, omega arith, sym is)

has_fault : (text word bytes : List ℕ) (status : ℕ) → LassoAnswers text word bytes status → status ≡ 1 → HasFlatFault text
has_fault text word bytes status (refused code place is fault line) one = record { code = code; place = place; fault = fault }
has_fault text word bytes status (bad_line flat n is is_flat first line) one = absurd (omega (arith, is, one))
has_fault text word bytes status (told truth is on line) one = absurd (omega (arith, is, one))

has_bad_line : (text word bytes : List ℕ) (status : ℕ) → LassoAnswers text word bytes status → status ≡ 40 → HasBadWordLine text word
has_bad_line text word bytes status (refused code place is fault line) forty = absurd (omega (arith, is, forty))
has_bad_line text word bytes status (bad_line flat n is is_flat first line) forty = record { flat = flat; is_flat = is_flat; line = n; first = first }
has_bad_line text word bytes status (told truth is on line) forty = absurd (omega (arith, is, forty))

module _ (one_fault : FlatFaultsAreDetermined) (one_flat : FlatTextsAreDetermined) (apart : FlatTextsHaveNoFault) (readings : ReadingsAreApart) (one_tree : TreesAreDetermined) where
  of_fault : (text word bytes : List ℕ) (status : ℕ) (code : SpecCode) (place : ℕ) → LassoAnswers text word bytes status → IsFlatFault SMALL_LIMITS text None code place → (status ≡ 1) × (bytes ≡ refusal_line code place)
  of_fault text word bytes status code place (refused c p is fault line) due =
      let same = one_fault SMALL_LIMITS text None c code p place fault due in (is, line ∙ one_refusal c code p place same.0 same.1)
  of_fault text word bytes status code place (bad_line flat n is is_flat first line) due = absurd (apart SMALL_LIMITS text None flat code place is_flat due)
  of_fault text word bytes status code place (told truth is on line) due = absurd (apart SMALL_LIMITS text None on.flat code place on.is_flat due)

  -- what is said of the word over the names of one flat text, at another one of the same text
  at_names : (text : List ℕ) (flat flat' : FlatText) (P : List (List ℕ) → Type 0) → IsFlatOf SMALL_LIMITS text None flat → IsFlatOf SMALL_LIMITS text None flat' → P (all_names flat.expanded) → P (all_names flat'.expanded)
  at_names text flat flat' P is is' h = subst (λ x. P (all_names x.expanded)) (one_flat SMALL_LIMITS text None flat flat' is is') h

  of_bad_line : (text word bytes : List ℕ) (status : ℕ) (flat : FlatText) (line : ℕ) → LassoAnswers text word bytes status
      → IsFlatOf SMALL_LIMITS text None flat → IsFirstBadWordLine word (all_names flat.expanded) line → (status ≡ 40) × (bytes ≡ line_refusal line)
  of_bad_line text word bytes status flat line (refused code place is fault at) is_due due = absurd (apart SMALL_LIMITS text None flat code place is_due fault)
  of_bad_line text word bytes status flat line (bad_line other n is is_flat first at) is_due due =
      (is, at ∙ ap line_refusal (readings.one_line word (all_names flat.expanded) n line (at_names text other flat (λ names. IsFirstBadWordLine word names n) is_flat is_due first) due))
  of_bad_line text word bytes status flat line (told truth is on at) is_due due =
      absurd (readings.apart word (all_names flat.expanded) on.lasso line (at_names text on.flat flat (λ names. StatesWord word names on.lasso) on.is_flat is_due on.states) due)

  of_lasso : (text word bytes : List ℕ) (status : ℕ) (tree : Text) (flat : FlatText) (lasso : Word) → LassoAnswers text word bytes status
      → Reads text tree → IsFlatOf SMALL_LIMITS text None flat → StatesWord word (all_names flat.expanded) lasso → (status ≡ 0) × (bytes ≡ truth_line (means SMALL_LIMITS lasso tree))
  of_lasso text word bytes status tree flat lasso (refused code place is fault at) reads is_due due = absurd (apart SMALL_LIMITS text None flat code place is_due fault)
  of_lasso text word bytes status tree flat lasso (bad_line other n is is_flat first at) reads is_due due =
      absurd (readings.apart word (all_names flat.expanded) lasso n due (at_names text other flat (λ names. IsFirstBadWordLine word names n) is_flat is_due first))
  of_lasso text word bytes status tree flat lasso (told truth is on at) reads is_due due =
      let states : StatesWord word (all_names flat.expanded) on.lasso = at_names text on.flat flat (λ names. StatesWord word names on.lasso) on.is_flat is_due on.states in
      let same_lasso : on.lasso ≡ lasso = readings.one_word word (all_names flat.expanded) on.lasso lasso states due in
      let same_tree : on.tree ≡ tree = one_tree text on.tree tree on.reads reads in
      (is, at ∙ ap truth_line (on.exactly ∙ ap (λ w. means SMALL_LIMITS w on.tree) same_lasso ∙ ap (λ t. means SMALL_LIMITS lasso t) same_tree))

  pub are_due : LassoAnswersAreDue
  are_due = record { statuses = statuses; refused = has_fault; line_refused = has_bad_line; of_fault = of_fault; of_bad_line = of_bad_line; of_lasso = of_lasso }
