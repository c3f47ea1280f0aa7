-- Laws of the answers, by which each comes exactly where it is due.
use Rattle.std.specs.Prelude.{◌≡◌, ℕ, Bool, List, [], ◌∷◌, Option, Contains, length}
use Rattle.text_limits.specs.declared.TheConstants.{LARGE_LIMITS}
use Rattle.letters_and_lassos.specs.declared.kinds.Kind.{Kind}
use Rattle.letters_and_lassos.specs.Word.{Word}
use Rattle.spec_faults.specs.declared.code.SpecCode.{SpecCode}
use Rattle.tlsf_expand.specs.Meaning.{means}
use Rattle.flat_lines.specs.FlatLines.{all_names}
use Rattle.flat_answer.specs.Lasso.{truth_line}
use Rattle.lasso_word.specs.WordText.{IsFirstBadWordLine, StatesWord}
use Rattle.solve_ground.specs.declared.texts.SolveText.{SolveText}
use Rattle.solve_ground.specs.SolveText.{IsSolveFault, IsSolveText}
use Rattle.solve_ground.specs.Taken.{spoken_word, taken_shift}
use Rattle.program_replies.specs.Lines.{line_refusal, refusal_line}
use Rattle.solved_flat.specs.Expand.{ExpandSolveAnswers, expansion_bytes}
use Rattle.solved_flat.specs.Lasso.{LassoSolveAnswers}

-- the text has a fault as `solve` takes it
pub record HasSolveFault (text : List ℕ) (given : Option Kind) : Type 0 where
  pub code : SpecCode
  pub place : ℕ
  pub fault : IsSolveFault text given code place

-- the text has none, and the word a first bad line over its signals
pub record HasBadWordLine (text : List ℕ) (given : Option Kind) (word : List ℕ) : Type 0 where
  pub known : SolveText
  pub is : IsSolveText text given known
  pub line : ℕ
  pub first : IsFirstBadWordLine word (all_names is.flat.expanded) line

-- An answer to `expand --solve` has status 0 or 1. It has status 1 exactly where the text has a fault as `solve` takes it, and is that fault's line;
-- and else it is the text as it is taken, written out flat, with the list of formulas behind it where it is asked for.
pub record ExpandSolveAnswersAreDue : Type 0 where
  pub statuses : (text : List ℕ) (given : Option Kind) (with_nodes : Bool) (bytes : List ℕ) (status : ℕ) → ExpandSolveAnswers text given with_nodes bytes status
      → Contains (0 ∷ 1 ∷ []) status
  pub refused : (text : List ℕ) (given : Option Kind) (with_nodes : Bool) (bytes : List ℕ) (status : ℕ) → ExpandSolveAnswers text given with_nodes bytes status
      → status ≡ 1 → HasSolveFault text given
  pub of_fault : (text : List ℕ) (given : Option Kind) (with_nodes : Bool) (bytes : List ℕ) (status : ℕ) (code : SpecCode) (place : ℕ)
      → ExpandSolveAnswers text given with_nodes bytes status → IsSolveFault text given code place → (status ≡ 1) × (bytes ≡ refusal_line code place)
  pub of_text : (text : List ℕ) (given : Option Kind) (with_nodes : Bool) (bytes : List ℕ) (status : ℕ) (known : SolveText)
      → ExpandSolveAnswers text given with_nodes bytes status → (is : IsSolveText text given known)
      → (status ≡ 0) × (bytes ≡ expansion_bytes with_nodes (taken_shift given is.taken.tree) is.flat known.formulas)

-- An answer to `lasso --solve` has status 0, 1 or 40. It has status 1 exactly where the text has a fault as `solve` takes it, and is that fault's line,
-- whatever the word is. Else it has status 40 exactly where the word has a first bad line over the signals of the text, and is that line's; and
-- where the word states a lasso, it tells whether the written text means so on the word of which it speaks there.
pub record LassoSolveAnswersAreDue : Type 0 where
  pub statuses : (text : List ℕ) (given : Option Kind) (word bytes : List ℕ) (status : ℕ) → LassoSolveAnswers text given word bytes status
      → Contains (0 ∷ 1 ∷ 40 ∷ []) status
  pub refused : (text : List ℕ) (given : Option Kind) (word bytes : List ℕ) (status : ℕ) → LassoSolveAnswers text given word bytes status → status ≡ 1
      → HasSolveFault text given
  pub line_refused : (text : List ℕ) (given : Option Kind) (word bytes : List ℕ) (status : ℕ) → LassoSolveAnswers text given word bytes status → status ≡ 40
      → HasBadWordLine text given word
  pub of_fault : (text : List ℕ) (given : Option Kind) (word bytes : List ℕ) (status : ℕ) (code : SpecCode) (place : ℕ)
      → LassoSolveAnswers text given word bytes status → IsSolveFault text given code place → (status ≡ 1) × (bytes ≡ refusal_line code place)
  pub of_bad_line : (text : List ℕ) (given : Option Kind) (word bytes : List ℕ) (status : ℕ) (known : SolveText) (line : ℕ)
      → LassoSolveAnswers text given word bytes status → (is : IsSolveText text given known) → IsFirstBadWordLine word (all_names is.flat.expanded) line
      → (status ≡ 40) × (bytes ≡ line_refusal line)
  pub of_lasso : (text : List ℕ) (given : Option Kind) (word bytes : List ℕ) (status : ℕ) (known : SolveText) (lasso : Word)
      → LassoSolveAnswers text given word bytes status → (is : IsSolveText text given known) → StatesWord word (all_names is.flat.expanded) lasso
      → (status ≡ 0) × (bytes ≡ truth_line (means LARGE_LIMITS (spoken_word (taken_shift given is.taken.tree) (length is.flat.expanded.inputs) lasso) is.taken.tree))
