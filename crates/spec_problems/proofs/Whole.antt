-- The whole of a text says the same once its normal forms stand in the list too.
use Rattle.std.proofs.Common.{◌≡◌, ℕ, List, Option, sym, ap, subst, ◌∙◌}
use Rattle.text_limits.specs.declared.TheConstants.{SMALL_LIMITS}
use Rattle.letters_and_lassos.specs.declared.kinds.Kind.{Kind}
use Rattle.ltl_formula.specs.declared.nodes.FormulaId.{FormulaId}
use Rattle.ltl_formula.specs.declared.nodes.Node.{Node}
use Rattle.ltl_formula.specs.Nodes.{Grows, tree_at}
use Rattle.ltl_formula.specs.Tree.{Tree}
use Rattle.ltl_formula.specs.Truth.{holds}
use Rattle.ltl_formula.proofs.Lists.{Grows-stands}
use Rattle.ltl_formula.proofs.Trees.{tree_at-grown}
use Rattle.tlsf_expand.specs.FlatText.{FlatText}
use Rattle.flat_text.specs.FlatOf.{IsFlatOf}
use Rattle.spec_problems.specs.declared.sides.SideProblems.{SideProblems}
use Rattle.spec_problems.specs.OfFormula.{AcceptBySide}
use Rattle.spec_problems.specs.OfText.{SaysWhat}

module _ (text : List ℕ) (kind : Option Kind) (flat : FlatText) (is : IsFlatOf SMALL_LIMITS text kind flat) (later : List Node) (grows : Grows flat.formulas later) where
  abbrev whole : FormulaId
  whole = flat.expanded.whole

  same_tree : tree_at later whole ≡ tree_at flat.formulas whole
  same_tree = tree_at-grown flat.formulas later whole grows is.meaning.stands

  pub says_what : SaysWhat text later whole
  says_what = record {
    tree = is.tree;
    read = is.read;
    meaning = record {
      stands = Grows-stands flat.formulas later whole grows is.meaning.stands;
      same = λ w. ap (λ (t : Tree). holds w t 0) same_tree ∙ is.meaning.same w;
    };
  }

  pub accept_later : (s : SideProblems) → AcceptBySide (tree_at flat.formulas whole) s → AcceptBySide (tree_at later whole) s
  accept_later s h = subst (λ (t : Tree). AcceptBySide t s) (sym same_tree) h
