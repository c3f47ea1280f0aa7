use Rattle.std.specs.Prelude.{ℕ, Bool, true, false, ◌==◌, List, Option, Some, None, if◌then◌else◌}
use Rattle.ltl_formula.specs.declared.nodes.FormulaId.{FormulaId}
use Rattle.ltl_formula.specs.declared.nodes.Node.{Node}
use Rattle.ltl_formula.specs.declared.nodes.Node.TheVariants as node
use Rattle.ltl_formula.specs.Tree.{Tree}
use Rattle.ltl_formula.specs.Nodes.{node_at}
use Rattle.ltl_formula.specs.Added.{Built, added}
use Rattle.ltl_normal.specs.declared.simplify.Joint.{Joint}
use Rattle.ltl_normal.specs.declared.simplify.Joint.TheVariants.{And, Or, Until, Release}
use Rattle.ltl_normal.specs.declared.simplify.Outcome.{Outcome}
use Rattle.ltl_normal.specs.declared.simplify.Outcome.TheVariants.{First, Second, Whole}
use Rattle.ltl_normal.specs.Simplify.{constant_of, outcome_of}
use Rattle.ltl_normal.specs.Table.{Target, table}

-- what a step of building makes of a list: the list after, and the id of what was made, or none where a new node met a
-- full list, which ends the building
abbrev pub Step : Type 0
Step = List Node → Built

-- the next step takes the id that this one made
abbrev pub go_on : Built → (FormulaId → Step) → Built
go_on built next = on_made built.made
  where
    on_made : Option FormulaId → Built
    on_made (Some id) = next id built.nodes
    on_made None = record { nodes = built.nodes; made = None }

-- nothing is to be made: this id is the result
abbrev pub gives : FormulaId → Step
gives id nodes = record { nodes = nodes; made = Some id }

-- an operator and its parts, as a node
abbrev pub whole_node : Joint → FormulaId → FormulaId → Node
whole_node And a b = node.And a b
whole_node Or a b = node.Or a b
whole_node Until a b = node.Until a b
whole_node Release a b = node.Release a b

-- the constant that an id stands for, if it is one
abbrev pub constant_at : List Node → FormulaId → Option Bool
constant_at nodes id = constant_of (node_at nodes id.0)

-- one of the parts, or the whole added
abbrev pub chosen_step : ℕ → Outcome → FormulaId → FormulaId → Node → Step
chosen_step most First a b whole nodes = gives a nodes
chosen_step most Second a b whole nodes = gives b nodes
chosen_step most Whole a b whole nodes = added most nodes whole

-- two parts that stand are joined, simplified
abbrev pub join_ids : ℕ → Joint → FormulaId → FormulaId → Step
join_ids most joint a b nodes = chosen_step most (outcome_of joint (constant_at nodes a) (constant_at nodes b) (a.0 == b.0)) a b (whole_node joint a b) nodes

-- Next of a part that stands, simplified
abbrev pub next_step : ℕ → Option Bool → FormulaId → Step
next_step most (Some value) a nodes = gives a nodes
next_step most None a nodes = added most nodes (node.Next a)

abbrev pub next_id : ℕ → FormulaId → Step
next_id most a nodes = next_step most (constant_at nodes a) a nodes

-- the constant's node
abbrev pub constant_node : Bool → Node
constant_node value = if value then node.True else node.False

-- the signal's node, and for its opposite then that of Not
abbrev pub literal_step : ℕ → Bool → ℕ → Step
literal_step most true s nodes = added most nodes (node.Signal s)
literal_step most false s nodes = go_on (added most nodes (node.Signal s)) (λ id later. added most later (node.Not id))

-- the table builds nodes, while fewer than `most` stand: parts from left to right before the whole, and parts that it has twice are looked up again
abbrev pub nodes_to : ℕ → Target Step
nodes_to most = record {
  constant = λ value nodes. added most nodes (constant_node value);
  literal = literal_step most;
  next = λ a nodes. go_on (a nodes) (next_id most);
  join = λ joint a b nodes. go_on (a nodes) (λ x later. go_on (b later) (join_ids most joint x));
}

-- the normal (`true`) or negated (`false`) form of a formula, built in a list
abbrev pub form_in : ℕ → Bool → Tree → Step
form_in most keep f = table (nodes_to most) keep f
