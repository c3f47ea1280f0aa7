use Rattle.std.specs.Prelude.{ℕ, List}
use Rattle.ltl_formula.specs.declared.nodes.FormulaId.{FormulaId}
use Rattle.ltl_formula.specs.declared.nodes.Node.{Node}
use Rattle.ltl_formula.specs.Nodes.{IsNodeList, SignalBelow, IsNodeIn, node_at, tree_at}
use Rattle.ltl_formula.specs.Added.{added}
use Rattle.ltl_formula.specs.Tree.{SignalsBelow}

-- each signal of a list's nodes is below n
pub record HasSignalsBelow (n : ℕ) (nodes : List Node) : Type 0 where
  pub nodes_below : (i : ℕ) → SignalBelow n (node_at nodes i)

-- a list that grew has no signals above those that it had
pub record KeepsSignals (old new : List Node) : Type 0 where
  pub kept : (n : ℕ) → HasSignalsBelow n old → HasSignalsBelow n new

-- the signals of a list are those of its formulas, and adding a node adds no signal but the node's
pub record SignalsOfListsAreKept : Type 0 where
  pub of_formulas : (n : ℕ) (nodes : List Node) (id : FormulaId) → IsNodeList nodes → HasSignalsBelow n nodes → IsNodeIn nodes id → SignalsBelow n (tree_at nodes id)
  pub of_added : (most n : ℕ) (nodes : List Node) (node : Node) → HasSignalsBelow n nodes → SignalBelow n node → HasSignalsBelow n (added most nodes node).nodes
