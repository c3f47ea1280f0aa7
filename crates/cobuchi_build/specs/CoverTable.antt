use Rattle.std.specs.Prelude.{◌≡◌, ◌≤◌, List, All, length, map}
use Rattle.ltl_formula.specs.declared.nodes.FormulaId.{FormulaId}
use Rattle.ltl_formula.specs.declared.nodes.Node.{Node}
use Rattle.obligation_sets.specs.declared.sets.Covering.{Covering}
use Rattle.obligation_sets.specs.declared.cover_search.TheConstants.{MAX_LEAVES}
use Rattle.obligation_sets.specs.declared.sets.Cover.{Cover}
use Rattle.obligation_sets.specs.Covers.{set_leaves}
use Rattle.obligation_sets.specs.Reduced.{covers_by}

-- What a `CoverTable` is seen as: sets of obligations, and a list of covers for each.
pub record TableModel : Type 0 where
  pub sets : List (List FormulaId)
  pub covers : List (List Cover)

-- A table has the covers of its sets, none of which has too many leaves (this project's own).
pub record IsTableOf (covering : Covering) (ns : List Node) (t : TableModel) : Type 0 where
  pub covers : t.covers ≡ map (covers_by covering ns) t.sets
  pub few : All (λ set. length (set_leaves ns set) ≤ MAX_LEAVES) t.sets
