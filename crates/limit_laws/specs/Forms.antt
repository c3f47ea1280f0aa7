-- Forms in lists of at most so many nodes, and of more (this project's own).
use Rattle.std.specs.Prelude.{◌≡◌, ◌≤◌, ℕ, Bool, List, Some}
use Rattle.ltl_formula.specs.declared.nodes.FormulaId.{FormulaId}
use Rattle.ltl_formula.specs.declared.nodes.Node.{Node}
use Rattle.ltl_formula.specs.Tree.{Tree}
use Rattle.ltl_normal.specs.NormalNodes.{form_in}
use Rattle.solve_ground.specs.Forms.{BothForms, forms_of}

-- what fits into a list of at most so many nodes is made in one of more too, with the same nodes and ids: a form, and both forms of a whole
pub record LargerListsKeepForms : Type 0 where
  pub form : (most more : ℕ) → most ≤ more → (keep : Bool) (f : Tree) (nodes : List Node) (id : FormulaId) → (form_in most keep f nodes).made ≡ Some id → form_in more keep f nodes ≡ form_in most keep f nodes
  pub both : (most more : ℕ) → most ≤ more → (nodes : List Node) (whole : FormulaId) (forms : BothForms) → forms_of most nodes whole ≡ Some forms → forms_of more nodes whole ≡ Some forms
