-- Formulas of a text's sections that stand in a list, and what they say of a lasso.
use Rattle.std.specs.Prelude.{◌≡◌, ℕ, Bool, List, All, map}
use Rattle.std.specs.List.{list_all}
use Rattle.letters_and_lassos.specs.Word.{Word}
use Rattle.ltl_formula.specs.declared.nodes.FormulaId.{FormulaId}
use Rattle.ltl_formula.specs.declared.nodes.Node.{Node}
use Rattle.ltl_formula.specs.Nodes.{IsNodeIn, tree_at}
use Rattle.ltl_formula.specs.Tree.{Tree}
use Rattle.ltl_formula.specs.Truth.{holds}
use Rattle.tlsf_syntax.specs.declared.sections.Sections.{Sections}
use Rattle.tlsf_syntax.specs.Text.{each_section}

-- it holds of each section
pub record OfEach {A : Type 0} (P : A → Type 0) (s : Sections A) : Type 0 where
  pub initially : P s.initially
  pub preset : P s.preset
  pub require : P s.require
  pub assert : P s.assert
  pub assume : P s.assume
  pub guarantee : P s.guarantee

-- each formula of each section stands in the list
abbrev pub SectionsStand : List Node → Sections (List FormulaId) → Type 0
SectionsStand nodes ids = OfEach (All (IsNodeIn nodes)) ids

-- the formula stands in the list by this id
pub record StandsAs (nodes : List Node) (t : Tree) (id : FormulaId) : Type 0 where
  pub stands : IsNodeIn nodes id
  pub tree : tree_at nodes id ≡ t

-- the formulas that ids stand for
abbrev pub formulas_at : List Node → List FormulaId → List Tree
formulas_at nodes ids = map (tree_at nodes) ids

abbrev pub section_trees : List Node → Sections (List FormulaId) → Sections (List Tree)
section_trees nodes ids = each_section (formulas_at nodes) ids

-- each formula of a section is true at a position
abbrev pub all_hold : Word → List Tree → ℕ → Bool
all_hold w ts i = list_all (λ t. holds w t i) ts

abbrev pub truths_of : Word → Sections (List Tree) → Sections (ℕ → Bool)
truths_of w s = each_section (all_hold w) s
