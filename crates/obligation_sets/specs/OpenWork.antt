use Rattle.std.specs.Prelude.{Bool, List, [], ◌∷◌, if◌then◌else◌}
use Rattle.ltl_formula.specs.declared.nodes.FormulaId.{FormulaId}
use Rattle.obligation_sets.specs.Ids.{has_id}

-- the work list from its first formula on that isn't done
abbrev pub open_work : List Bool → List FormulaId → List FormulaId
open_work done [] = []
open_work done (f ∷ fs) = if has_id done f then open_work done fs else (f ∷ fs)
