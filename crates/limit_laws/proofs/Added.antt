-- What finds room in a list of at most so many nodes finds it in one of more.
use Rattle.std.proofs.Common.{◌≡◌, ℕ, ◌<◌, ◌≤◌, Bool, true, false, cond, ltb, List, [], ◌∷◌, ◌++◌, length, Option, None, Some, refl, ap, arith}
use Rattle.std.specs.Prelude.{min, position}
use Rattle.std.proofs.lemmas.Bool.{lt-ltb, ltb-true}
use Rattle.ltl_formula.specs.declared.nodes.FormulaId.{FormulaId}
use Rattle.ltl_formula.specs.declared.nodes.Node.{Node}
use Rattle.ltl_formula.specs.declared.nodes.TheConstants.{MAX_NODES}
use Rattle.ltl_formula.specs.Added.{Built, added, built_at, node_eq}

-- a node at the end of the list, or none
abbrev last_where : Bool → List Node → Node → Built
last_where b nodes node = cond b (let x : Built = record { nodes = nodes ++ node ∷ []; made = Some (record { 0 = length nodes }) } in x) (let x : Built = record { nodes = nodes; made = None } in x)

below_more : (n most more : ℕ) → most ≤ more → n < min most MAX_NODES → n < min more MAX_NODES
below_more n most more wider below = omega arith

pub added_wider : (most more : ℕ) → most ≤ more → (nodes : List Node) (node : Node) (id : FormulaId) → (added most nodes node).made ≡ Some id → added more nodes node ≡ added most nodes node
added_wider most more wider nodes node id = at (position (node_eq node) nodes)
  where
    room : (b : Bool) → ltb (length nodes) (min most MAX_NODES) ≡ b → (last_where b nodes node).made ≡ Some id → last_where (ltb (length nodes) (min more MAX_NODES)) nodes node ≡ last_where b nodes node
    room true e made = ap (λ c. last_where c nodes node) (lt-ltb (length nodes) (min more MAX_NODES) (below_more (length nodes) most more wider (ltb-true (length nodes) (min most MAX_NODES) e)))
    room false e made = cc

    at : (o : Option ℕ) → (built_at most o nodes node).made ≡ Some id → built_at more o nodes node ≡ built_at most o nodes node
    at (Some i) made = refl
    at None made = room (ltb (length nodes) (min most MAX_NODES)) refl made
