-- What a reply answers.
use Rattle.std.proofs.Common.{◌≡◌, ℕ, Bool, List, None, ◌∙◌}
use Rattle.text_limits.specs.declared.TheConstants.{SMALL_LIMITS}
use Rattle.letters_and_lassos.specs.Word.{Word}
use Rattle.ltl_formula.specs.Nodes.{tree_at}
use Rattle.ltl_formula.specs.Truth.{holds}
use Rattle.tlsf_expand.specs.FlatText.{FlatText}
use Rattle.flat_text.specs.FlatOf.{IsFlatFault, IsFlatOf}
use Rattle.flat_lines.specs.FlatLines.{all_names}
use Rattle.lasso_word.specs.WordText.{StatesWord}
use Rattle.program_replies.specs.Refusals.{RefusedBy}
use Rattle.flat_answer.specs.Expand.{ExpandAnswers}
use Rattle.flat_answer.specs.Expand as expand
use Rattle.flat_answer.specs.Lasso.{IsTruthOn, LassoAnswers}
use Rattle.flat_answer.specs.Lasso as lasso

module _ (text : List ℕ) where
  pub refused_expand : (bytes : List ℕ) (status : ℕ) → RefusedBy (IsFlatFault SMALL_LIMITS text None) bytes status → ExpandAnswers text bytes status
  refused_expand bytes status r = expand.refused r.code r.place r.status_is r.fault r.line

  pub refused_lasso : (bytes : List ℕ) (status : ℕ) → RefusedBy (IsFlatFault SMALL_LIMITS text None) bytes status → (word : List ℕ) → LassoAnswers text word bytes status
  refused_lasso bytes status r word = lasso.refused r.code r.place r.status_is r.fault r.line

  -- the truth of the whole flat formula is whether the text means so
  pub truth_on : (word : List ℕ) (flat : FlatText) (lasso : Word) (truth : Bool) → IsFlatOf SMALL_LIMITS text None flat → StatesWord word (all_names flat.expanded) lasso
      → truth ≡ holds lasso (tree_at flat.formulas flat.expanded.whole) 0 → IsTruthOn text word truth
  truth_on word flat lasso truth is_flat states is = record {
    tree = is_flat.tree;
    reads = is_flat.read;
    flat = flat;
    is_flat = is_flat;
    lasso = lasso;
    states = states;
    exactly = is ∙ is_flat.meaning.same lasso;
  }
