use Rattle.std.specs.Prelude.{◌≡◌, ℕ, ◌<◌, ◌≤◌, List, [], ◌∷◌, ◌++◌, length, slice_index_or}
use Rattle.ltl_formula.specs.declared.nodes.FormulaId.{FormulaId}
use Rattle.ltl_formula.specs.declared.nodes.Node.{Node}
use Rattle.ltl_formula.specs.declared.nodes.Node.TheVariants.{True, False, Signal, Not, Next, Finally, Globally, And, Or, Implies, Equiv, Until, Release, WeakUntil}
use Rattle.ltl_formula.specs.declared.nodes.TheConstants.{MAX_NODES, MAX_SIGNALS}
use Rattle.ltl_formula.specs.Tree.{Tree}
use Rattle.ltl_formula.specs.Tree.Tree.{truth, falsity, signal, negation, next_time, finally, globally, conjunction, disjunction, implication, equivalence, until, release, weak_until}

-- the tree that an id names among the trees of the nodes
abbrev pub pick : List Tree → FormulaId → Tree
pick trees id = slice_index_or trees id.0 falsity

-- the tree of a node, given those of the nodes before it
abbrev pub tree_of : List Tree → Node → Tree
tree_of trees True = truth
tree_of trees False = falsity
tree_of trees (Signal s) = signal s
tree_of trees (Not a) = negation (pick trees a)
tree_of trees (Next a) = next_time (pick trees a)
tree_of trees (Finally a) = finally (pick trees a)
tree_of trees (Globally a) = globally (pick trees a)
tree_of trees (And a b) = conjunction (pick trees a) (pick trees b)
tree_of trees (Or a b) = disjunction (pick trees a) (pick trees b)
tree_of trees (Implies a b) = implication (pick trees a) (pick trees b)
tree_of trees (Equiv a b) = equivalence (pick trees a) (pick trees b)
tree_of trees (Until a b) = until (pick trees a) (pick trees b)
tree_of trees (Release a b) = release (pick trees a) (pick trees b)
tree_of trees (WeakUntil a b) = weak_until (pick trees a) (pick trees b)

-- the trees after those of the nodes are put behind them, one by one
abbrev pub trees_after : List Tree → List Node → List Tree
trees_after trees [] = trees
trees_after trees (node ∷ nodes) = trees_after (trees ++ tree_of trees node ∷ []) nodes

-- the trees that a list of nodes stands for
abbrev pub trees_of : List Node → List Tree
trees_of nodes = trees_after [] nodes

-- the formula that an id stands for
abbrev pub tree_at : List Node → FormulaId → Tree
tree_at nodes id = pick (trees_of nodes) id

-- the node at a place; there is none past the end, where this is `False`
abbrev pub node_at : List Node → ℕ → Node
node_at nodes i = slice_index_or nodes i False

-- the node's parts are ids below n
abbrev pub PartsBelow : ℕ → Node → Type 0
PartsBelow n True = Unit {0}
PartsBelow n False = Unit {0}
PartsBelow n (Signal s) = Unit {0}
PartsBelow n (Not a) = a.0 < n
PartsBelow n (Next a) = a.0 < n
PartsBelow n (Finally a) = a.0 < n
PartsBelow n (Globally a) = a.0 < n
PartsBelow n (And a b) = (a.0 < n) × (b.0 < n)
PartsBelow n (Or a b) = (a.0 < n) × (b.0 < n)
PartsBelow n (Implies a b) = (a.0 < n) × (b.0 < n)
PartsBelow n (Equiv a b) = (a.0 < n) × (b.0 < n)
PartsBelow n (Until a b) = (a.0 < n) × (b.0 < n)
PartsBelow n (Release a b) = (a.0 < n) × (b.0 < n)
PartsBelow n (WeakUntil a b) = (a.0 < n) × (b.0 < n)

-- the node's signal, if it is one, is below n
abbrev pub SignalBelow : ℕ → Node → Type 0
SignalBelow n (Signal s) = s < n
SignalBelow n _ = Unit {0}

-- a list of formulas: parts stand before wholes, signals are below 32, nodes are different and at most 4,096
pub record IsNodeList (nodes : List Node) : Type 0 where
  pub parts_first : (i : ℕ) → PartsBelow i (node_at nodes i)
  pub signals : (i : ℕ) → SignalBelow MAX_SIGNALS (node_at nodes i)
  pub different : (i j : ℕ) → i < length nodes → j < length nodes → node_at nodes i ≡ node_at nodes j → i ≡ j
  pub most : length nodes ≤ MAX_NODES

-- the id is a place of the list
abbrev pub IsNodeIn : List Node → FormulaId → Type 0
IsNodeIn nodes id = id.0 < length nodes

-- the list has grown, or stayed: what stood has kept its place
pub record Grows (old new : List Node) : Type 0 where
  pub more : List Node
  pub appended : new ≡ old ++ more
