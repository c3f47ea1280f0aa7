use Rattle.std.specs.Prelude.{ℕ, min, Bool, List, [], ◌∷◌, ◌++◌, length, Option, None, Some, nat_lt, position, if◌then◌else◌}
use Rattle.ltl_formula.specs.contracts.nodes.NodePartialEq.TheImpl.{ghosts as node_ghosts}
use Rattle.ltl_formula.specs.declared.nodes.FormulaId.{FormulaId}
use Rattle.ltl_formula.specs.declared.nodes.Node.{Node}
use Rattle.ltl_formula.specs.declared.nodes.TheConstants.{MAX_NODES}

-- equality of nodes, as it is derived
abbrev pub node_eq : Node → Node → Bool
node_eq = node_ghosts.eq

-- a list of formulas after something was built in it, and the id of what was built: none where it had no room
pub record Built : Type 0 where
  pub nodes : List Node
  pub made : Option FormulaId

-- a node whose place is known stands; a new one goes last while fewer than `most` nodes stand, and fewer than any list holds
abbrev pub built_at : ℕ → Option ℕ → List Node → Node → Built
built_at most (Some i) nodes node = record { nodes = nodes; made = Some (record { 0 = i }) }
built_at most None nodes node =
    if nat_lt (length nodes) (min most MAX_NODES) then record { nodes = nodes ++ node ∷ []; made = Some (record { 0 = length nodes }) }
    else record { nodes = nodes; made = None }

-- adding a node to a list that takes no new one once `most` stand: the id of an equal node that stands, else a new last one
abbrev pub added : ℕ → List Node → Node → Built
added most nodes node = built_at most (position (node_eq node) nodes) nodes node
