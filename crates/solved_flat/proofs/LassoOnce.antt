-- A text and a word have one answer to `lasso --solve`.
use Rattle.std.proofs.Common.{◌≡◌, ℕ, List, [], ◌∷◌, length, Option, Contains, sym, ap, ◌∙◌, subst, arith}
use Rattle.text_limits.specs.declared.TheConstants.{LARGE_LIMITS}
use Rattle.letters_and_lassos.specs.declared.kinds.Kind.{Kind}
use Rattle.letters_and_lassos.specs.Word.{Word}
use Rattle.spec_faults.specs.declared.code.SpecCode.{SpecCode}
use Rattle.tlsf_syntax.specs.Text.{Text}
use Rattle.tlsf_reader.specs.Reads.{TreesAreDetermined}
use Rattle.tlsf_expand.specs.Meaning.{means}
use Rattle.tlsf_expand.specs.FlatText.{FlatText}
use Rattle.flat_text.specs.Laws.{FlatTextsAreDetermined}
use Rattle.flat_lines.specs.FlatLines.{all_names}
use Rattle.flat_answer.specs.Lasso.{truth_line}
use Rattle.lasso_word.specs.WordText.{IsFirstBadWordLine, StatesWord}
use Rattle.lasso_word.specs.Stated.{ReadingsAreApart}
use Rattle.solve_ground.specs.declared.texts.SolveText.{SolveText}
use Rattle.solve_ground.specs.Laws.{SolveTextsAreDetermined}
use Rattle.solve_ground.specs.SolveText.{IsSolveFault, IsSolveText}
use Rattle.solve_ground.specs.Taken.{spoken_word, taken_shift}
use Rattle.program_replies.specs.Lines.{line_refusal, refusal_line}
use Rattle.program_replies.proofs.RefusalLemmas.{one_refusal}
use Rattle.solved_flat.specs.Lasso.{LassoSolveAnswers, bad_line, refused, told}
use Rattle.solved_flat.specs.Laws.{HasBadWordLine, HasSolveFault, LassoSolveAnswersAreDue}
use Rattle.solved_flat.proofs.Same.{same_flat, same_tree}

statuses : (text : List ℕ) (given : Option Kind) (word bytes : List ℕ) (status : ℕ) → LassoSolveAnswers text given word bytes status → Contains (0 ∷ 1 ∷ 40 ∷ []) status
statuses text given word bytes status (refused code place is fault line) = (1, omega arith, sym is)
statuses text given word bytes status (bad_line known so n is first line) = (2, omega arith, sym is)
statuses text given word bytes status (told truth is on line) = (0, omega arith, sym is)

has_fault : (text : List ℕ) (given : Option Kind) (word bytes : List ℕ) (status : ℕ) → LassoSolveAnswers text given word bytes status → status ≡ 1 → HasSolveFault text given
has_fault text given word bytes status (refused code place is fault line) one = record { code = code; place = place; fault = fault }
has_fault text given word bytes status (bad_line known so n is first line) one = absurd (omega (arith, is, one))
has_fault text given word bytes status (told truth is on line) one = absurd (omega (arith, is, one))

has_bad_line : (text : List ℕ) (given : Option Kind) (word bytes : List ℕ) (status : ℕ) → LassoSolveAnswers text given word bytes status → status ≡ 40 → HasBadWordLine text given word
has_bad_line text given word bytes status (refused code place is fault line) forty = absurd (omega (arith, is, forty))
has_bad_line text given word bytes status (bad_line known so n is first line) forty = record { known = known; is = so; line = n; first = first }
has_bad_line text given word bytes status (told truth is on line) forty = absurd (omega (arith, is, forty))

-- whether a tree, shifted or not, means so on a lasso over the signals of a flat text
abbrev truth_of : Option Kind → Text → FlatText → Word → List ℕ
truth_of given tree flat lasso = truth_line (means LARGE_LIMITS (spoken_word (taken_shift given tree) (length flat.expanded.inputs) lasso) tree)

module _ (one_text : SolveTextsAreDetermined) (one_flat : FlatTextsAreDetermined) (one_tree : TreesAreDetermined) (readings : ReadingsAreApart) where
  of_fault : (text : List ℕ) (given : Option Kind) (word bytes : List ℕ) (status : ℕ) (code : SpecCode) (place : ℕ)
      → LassoSolveAnswers text given word bytes status → IsSolveFault text given code place → (status ≡ 1) × (bytes ≡ refusal_line code place)
  of_fault text given word bytes status code place (refused c p is fault line) due =
      let same = one_text.one_fault text given c code p place fault due in (is, line ∙ one_refusal c code p place same.0 same.1)
  of_fault text given word bytes status code place (bad_line known so n is first line) due = absurd (one_text.no_fault text given known code place so due)
  of_fault text given word bytes status code place (told truth is on line) due = absurd (one_text.no_fault text given on.known code place on.is due)

  -- what is said of the word over the names of a text, at another one of the same bytes
  at_names : (text : List ℕ) (given : Option Kind) (known other : SolveText) (P : List (List ℕ) → Type 0) (a : IsSolveText text given known) (b : IsSolveText text given other)
      → P (all_names a.flat.expanded) → P (all_names b.flat.expanded)
  at_names text given known other P a b said = subst (λ (flat : FlatText). P (all_names flat.expanded)) (same_flat one_flat one_tree text given known other a b) said

  of_bad_line : (text : List ℕ) (given : Option Kind) (word bytes : List ℕ) (status : ℕ) (known : SolveText) (line : ℕ)
      → LassoSolveAnswers text given word bytes status → (is : IsSolveText text given known) → IsFirstBadWordLine word (all_names is.flat.expanded) line
      → (status ≡ 40) × (bytes ≡ line_refusal line)
  of_bad_line text given word bytes status known line (refused code place is fault at) so due = absurd (one_text.no_fault text given known code place so fault)
  of_bad_line text given word bytes status known line (bad_line other such n is first at) so due =
      (is, at ∙ ap line_refusal (readings.one_line word (all_names so.flat.expanded) n line (at_names text given other known (λ names. IsFirstBadWordLine word names n) such so first) due))
  of_bad_line text given word bytes status known line (told truth is on at) so due =
      absurd (readings.apart word (all_names so.flat.expanded) on.lasso line (at_names text given on.known known (λ names. StatesWord word names on.lasso) on.is so on.states) due)

  of_lasso : (text : List ℕ) (given : Option Kind) (word bytes : List ℕ) (status : ℕ) (known : SolveText) (lasso : Word)
      → LassoSolveAnswers text given word bytes status → (is : IsSolveText text given known) → StatesWord word (all_names is.flat.expanded) lasso
      → (status ≡ 0) × (bytes ≡ truth_line (means LARGE_LIMITS (spoken_word (taken_shift given is.taken.tree) (length is.flat.expanded.inputs) lasso) is.taken.tree))
  of_lasso text given word bytes status known lasso (refused code place is fault at) so due = absurd (one_text.no_fault text given known code place so fault)
  of_lasso text given word bytes status known lasso (bad_line other such n is first at) so due =
      absurd (readings.apart word (all_names so.flat.expanded) lasso n due (at_names text given other known (λ names. IsFirstBadWordLine word names n) such so first))
  of_lasso text given word bytes status known lasso (told truth is on at) so due =
      let states : StatesWord word (all_names so.flat.expanded) on.lasso = at_names text given on.known known (λ names. StatesWord word names on.lasso) on.is so on.states in
      let word_is : on.lasso ≡ lasso = readings.one_word word (all_names so.flat.expanded) on.lasso lasso states due in
      let tree_is : on.is.taken.tree ≡ so.taken.tree = same_tree one_flat one_tree text given on.known known on.is so in
      let flat_is : on.is.flat ≡ so.flat = same_flat one_flat one_tree text given on.known known on.is so in (
        is,
        at ∙ ap truth_line on.exactly
            ∙ ap (truth_of given on.is.taken.tree on.is.flat) word_is
            ∙ ap (λ (flat : FlatText). truth_of given on.is.taken.tree flat lasso) flat_is
            ∙ ap (λ (tree : Text). truth_of given tree so.flat lasso) tree_is,
      )

  pub are_due : LassoSolveAnswersAreDue
  are_due = record { statuses = statuses; refused = has_fault; line_refused = has_bad_line; of_fault = of_fault; of_bad_line = of_bad_line; of_lasso = of_lasso }
