-- The answer of `lasso --solve` to a text and a word (this project's own). A kind that is given stands for those that the text names.
use Rattle.std.specs.Prelude.{◌≡◌, ℕ, Bool, List, Option, length}
use Rattle.text_limits.specs.declared.TheConstants.{LARGE_LIMITS}
use Rattle.letters_and_lassos.specs.declared.kinds.Kind.{Kind}
use Rattle.letters_and_lassos.specs.Word.{Word}
use Rattle.spec_faults.specs.declared.code.SpecCode.{SpecCode}
use Rattle.tlsf_expand.specs.Meaning.{means}
use Rattle.flat_lines.specs.FlatLines.{all_names}
use Rattle.flat_answer.specs.Lasso.{truth_line}
use Rattle.lasso_word.specs.WordText.{IsFirstBadWordLine, StatesWord}
use Rattle.solve_ground.specs.declared.texts.SolveText.{SolveText}
use Rattle.solve_ground.specs.SolveText.{IsSolveFault, IsSolveText}
use Rattle.solve_ground.specs.Taken.{spoken_word, taken_shift}
use Rattle.program_replies.specs.Lines.{line_refusal, refusal_line}

-- The word states a lasso over the signals of the text, the inputs first, and this is whether the written text means so: on the lasso itself,
-- or where the text is converted on the word of which it speaks.
pub record IsSolveTruthOn (text : List ℕ) (given : Option Kind) (word : List ℕ) (truth : Bool) : Type 0 where
  pub known : SolveText
  pub is : IsSolveText text given known
  pub lasso : Word
  pub states : StatesWord word (all_names is.flat.expanded) lasso
  pub exactly : truth ≡ means LARGE_LIMITS (spoken_word (taken_shift given is.taken.tree) (length is.flat.expanded.inputs) lasso) is.taken.tree

-- The bytes and the status: the line of the text's first fault as `solve` takes it, that of the word's first bad line over the signals of
-- the text, or whether the text as it is taken is true on the lasso.
pub data LassoSolveAnswers (text : List ℕ) (given : Option Kind) (word bytes : List ℕ) (status : ℕ) : Type 0 where
  refused : (code : SpecCode) (place : ℕ) → status ≡ 1 → IsSolveFault text given code place → bytes ≡ refusal_line code place
      → LassoSolveAnswers text given word bytes status
  bad_line : (known : SolveText) (is : IsSolveText text given known) (line : ℕ) → status ≡ 40 → IsFirstBadWordLine word (all_names is.flat.expanded) line
      → bytes ≡ line_refusal line → LassoSolveAnswers text given word bytes status
  told : (truth : Bool) → status ≡ 0 → IsSolveTruthOn text given word truth → bytes ≡ truth_line truth
      → LassoSolveAnswers text given word bytes status
