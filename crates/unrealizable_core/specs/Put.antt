-- Formulas put into a list of nodes: each with its parts from left to right before it, and each node once (this project's own).
use Rattle.std.specs.Prelude.{List, [], ◌∷◌}
use Rattle.ltl_formula.specs.declared.nodes.FormulaId.{FormulaId}
use Rattle.ltl_formula.specs.declared.nodes.Node.{Node}
use Rattle.ltl_formula.specs.declared.nodes.Node.TheVariants as node
use Rattle.ltl_formula.specs.Tree.{Tree}
use Rattle.ltl_formula.specs.Tree.Tree.{truth, falsity, signal, negation, next_time, finally, globally, conjunction, disjunction, implication, equivalence, until, release, weak_until}
use Rattle.tlsf_values.specs.declared.work.Work.{Work}
use Rattle.tlsf_values.specs.Outcomes.{Outcome, gives, go_on, made}

-- a node over one part that was put, or over two
abbrev pub put_over : (FormulaId → Node) → Outcome FormulaId → Outcome FormulaId
put_over whole part = go_on part (λ a w. made 0 (whole a) w)

abbrev pub put_over_both : (FormulaId → FormulaId → Node) → Outcome FormulaId → (Work → Outcome FormulaId) → Outcome FormulaId
put_over_both whole left right = go_on left (λ a w. go_on (right w) (λ b w. made 0 (whole a b) w))

-- the formula's node, which joins the list unless it stands there, after its parts
abbrev pub put : Tree → Work → Outcome FormulaId
put truth w = made 0 node.True w
put falsity w = made 0 node.False w
put (signal s) w = made 0 (node.Signal s) w
put (negation a) w = put_over node.Not (put a w)
put (next_time a) w = put_over node.Next (put a w)
put (finally a) w = put_over node.Finally (put a w)
put (globally a) w = put_over node.Globally (put a w)
put (conjunction a b) w = put_over_both node.And (put a w) (put b)
put (disjunction a b) w = put_over_both node.Or (put a w) (put b)
put (implication a b) w = put_over_both node.Implies (put a w) (put b)
put (equivalence a b) w = put_over_both node.Equiv (put a w) (put b)
put (until a b) w = put_over_both node.Until (put a w) (put b)
put (release a b) w = put_over_both node.Release (put a w) (put b)
put (weak_until a b) w = put_over_both node.WeakUntil (put a w) (put b)

-- one formula after the other
abbrev pub put_all : List Tree → Work → Outcome (List FormulaId)
put_all [] w = gives [] w
put_all (t ∷ ts) w = go_on (put t w) (λ id w. go_on (put_all ts w) (λ ids w. gives (id ∷ ids) w))
