-- What the formula of the whole says of a lasso, by the formulas of the sections.
use Rattle.std.specs.Prelude.{◌≡◌, Bool, List}
use Rattle.letters_and_lassos.specs.Word.{Word}
use Rattle.ltl_formula.specs.declared.nodes.FormulaId.{FormulaId}
use Rattle.ltl_formula.specs.declared.nodes.Node.{Node}
use Rattle.ltl_formula.specs.Nodes.{IsNodeIn, tree_at}
use Rattle.ltl_formula.specs.Tree.{Tree}
use Rattle.ltl_formula.specs.Truth.{holds}
use Rattle.tlsf_expand.specs.Meaning.{by_semantics}
use Rattle.tlsf_expand.specs.Standing.{truths_of}
use Rattle.tlsf_syntax.specs.declared.sections.Sections.{Sections}

-- the formula is true on every lasso exactly where the standard or the strict formula over these sections is
pub record SaysWhole (strict : Bool) (s : Sections (List Tree)) (nodes : List Node) (whole : FormulaId) : Type 0 where
  pub stands : IsNodeIn nodes whole
  pub same : (w : Word) → holds w (tree_at nodes whole) 0 ≡ by_semantics strict w (truths_of w s)
