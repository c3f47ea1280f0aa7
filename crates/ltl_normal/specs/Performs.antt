use Rattle.std.specs.Prelude.{◌≡◌, ℕ, ◌+◌, max, Bool, List, Option, Some, None, Result, Err, IfOk, slice_index_or, if◌then◌else◌}
use Rattle.ltl_formula.specs.declared.faults.AddFault.{AddFault}
use Rattle.ltl_formula.specs.declared.faults.AddFault.TheVariants.{TooManyNodes}
use Rattle.ltl_formula.specs.declared.nodes.FormulaId.{FormulaId}
use Rattle.ltl_formula.specs.declared.nodes.Node.{Node}
use Rattle.ltl_formula.specs.declared.nodes.Node.TheVariants.{Not, Next, Finally, Globally, And, Or, Implies, Equiv, Until, Release, WeakUntil}
use Rattle.ltl_formula.specs.Nodes.{Grows, IsNodeList, IsNodeIn, tree_at}
use Rattle.ltl_normal.specs.declared.memo.Forms.{Forms}
use Rattle.ltl_normal.specs.NormalNodes.{Step, form_in}

-- a call took the step from the old list to the new one, or ended where it ends; where memory was wanted the list
-- has grown by a part of the step's nodes
pub record Performs (step : Step) (old new : List Node) (result : Result FormulaId AddFault) : Type 0 where
  pub ok : IfOk result (λ id. step old ≡ record { nodes = new; made = Some id })
  pub too_many : result ≡ Err TooManyNodes → step old ≡ record { nodes = new; made = None }
  pub stands : IfOk result (λ id. IsNodeIn new id)
  pub grows : Grows old new
  pub list : IsNodeList new

-- the form of node i that is kept, if one is
abbrev pub recorded : List Forms → Bool → ℕ → Option FormulaId
recorded forms keep i = let e : Forms = slice_index_or forms i (record { kept = None; opposed = None }) in if keep then e.kept else e.opposed

-- each form that is kept is one that building it again in this list would give, with no node more
pub record IsMemo (most : ℕ) (forms : List Forms) (nodes : List Node) : Type 0 where
  pub found : (keep : Bool) (place id : FormulaId) → recorded forms keep place.0 ≡ Some id → IsNodeIn nodes place × (form_in most keep (tree_at nodes place) nodes ≡ record { nodes = nodes; made = Some id })

-- one more than the greatest id among the node's parts, or 0 where it has none
abbrev pub part_bound : Node → ℕ
part_bound (Not a) = a.0 + 1
part_bound (Next a) = a.0 + 1
part_bound (Finally a) = a.0 + 1
part_bound (Globally a) = a.0 + 1
part_bound (And a b) = max a.0 b.0 + 1
part_bound (Or a b) = max a.0 b.0 + 1
part_bound (Implies a b) = max a.0 b.0 + 1
part_bound (Equiv a b) = max a.0 b.0 + 1
part_bound (Until a b) = max a.0 b.0 + 1
part_bound (Release a b) = max a.0 b.0 + 1
part_bound (WeakUntil a b) = max a.0 b.0 + 1
part_bound _ = 0
