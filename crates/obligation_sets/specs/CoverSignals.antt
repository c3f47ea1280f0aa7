use Rattle.std.specs.Prelude.{◌^◌, ◌<◌, ℕ, List, All}
use Rattle.ltl_formula.specs.declared.nodes.FormulaId.{FormulaId}
use Rattle.ltl_formula.specs.declared.nodes.Node.{Node}
use Rattle.ltl_formula.specs.ListSignals.{HasSignalsBelow}
use Rattle.obligation_sets.specs.declared.sets.Cover.{Cover}
use Rattle.obligation_sets.specs.declared.sets.Covering.{Covering}
use Rattle.obligation_sets.specs.Reduced.{covers_by}

-- the cover's cube names only the first n signals
pub record NamesSignals (n : ℕ) (c : Cover) : Type 0 where
  pub must : c.cube.must < 2 ^ n
  pub none_of : c.cube.not < 2 ^ n

-- covers name no signals but those of the list
pub record NameSignalsOf (ns : List Node) (covers : List Cover) : Type 0 where
  pub named : (n : ℕ) → HasSignalsBelow n ns → All (NamesSignals n) covers

-- the covers of a set name no signals but those of the list that its formulas stand in
abbrev pub CoversNameSignals : Type 0
CoversNameSignals = (covering : Covering) (ns : List Node) (set : List FormulaId) → NameSignalsOf ns (covers_by covering ns set)
