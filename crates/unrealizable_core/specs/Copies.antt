-- What is known of formulas that were put from one list into another.
use Rattle.std.specs.Prelude.{◌≡◌, ℕ, List, Option, None, Some, slice_index_or}
use Rattle.ltl_formula.specs.declared.nodes.FormulaId.{FormulaId}
use Rattle.ltl_formula.specs.declared.nodes.Node.{Node}
use Rattle.ltl_formula.specs.declared.nodes.Node.TheVariants as node
use Rattle.ltl_formula.specs.Nodes.{IsNodeList, tree_at}
use Rattle.ltl_formula.specs.Tree.{Tree}
use Rattle.ltl_formula.specs.Tree.Tree.{truth, falsity, signal, negation, next_time, finally, globally, conjunction, disjunction, implication, equivalence, until, release, weak_until}
use Rattle.tlsf_values.specs.declared.work.Work.{Work}
use Rattle.tlsf_values.specs.Outcomes.{Outcome, gives, go_on}
use Rattle.tlsf_expand.specs.Standing.{StandsAs}
use Rattle.unrealizable_core.specs.declared.copies.Pair.{Pair}
use Rattle.unrealizable_core.specs.Put.{put}

-- each copy that is known is one of its formula
pub record AreCopies (from : List Node) (known : List (Option FormulaId)) (nodes : List Node) : Type 0 where
  pub from_list : IsNodeList from
  pub list : IsNodeList nodes
  pub copies : (place : ℕ) (id : FormulaId) → slice_index_or known place None ≡ Some id → StandsAs nodes (tree_at from (record { 0 = place })) id

-- the formula's node over its parts, which are put
abbrev pub over : (FormulaId → Node) → Outcome FormulaId → Outcome Node
over whole part = go_on part (λ a w. gives (whole a) w)

abbrev pub pair_put : Outcome FormulaId → (Work → Outcome FormulaId) → Outcome Pair
pair_put left right = go_on left (λ a w. go_on (right w) (λ b w. gives (record { left = a; right = b }) w))

abbrev pub over_both : (FormulaId → FormulaId → Node) → Outcome FormulaId → (Work → Outcome FormulaId) → Outcome Node
over_both whole left right = go_on (pair_put left right) (λ p w. gives (whole p.left p.right) w)

abbrev pub parts_put : Tree → Work → Outcome Node
parts_put truth w = gives node.True w
parts_put falsity w = gives node.False w
parts_put (signal s) w = gives (node.Signal s) w
parts_put (negation a) w = over node.Not (put a w)
parts_put (next_time a) w = over node.Next (put a w)
parts_put (finally a) w = over node.Finally (put a w)
parts_put (globally a) w = over node.Globally (put a w)
parts_put (conjunction a b) w = over_both node.And (put a w) (put b)
parts_put (disjunction a b) w = over_both node.Or (put a w) (put b)
parts_put (implication a b) w = over_both node.Implies (put a w) (put b)
parts_put (equivalence a b) w = over_both node.Equiv (put a w) (put b)
parts_put (until a b) w = over_both node.Until (put a w) (put b)
parts_put (release a b) w = over_both node.Release (put a w) (put b)
parts_put (weak_until a b) w = over_both node.WeakUntil (put a w) (put b)
