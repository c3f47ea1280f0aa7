-- Operators over formulas and truths, as they make nodes: linear temporal logic, with this project's order of nodes.
use Rattle.std.specs.Prelude.{ℕ, Bool, true, false, not, ◌&&◌, ◌||◌}
use Rattle.ltl_formula.specs.declared.nodes.FormulaId.{FormulaId}
use Rattle.ltl_formula.specs.declared.nodes.Node.{Node}
use Rattle.ltl_formula.specs.declared.nodes.Node.TheVariants as node
use Rattle.tlsf_values.specs.declared.formula.Formula.{Formula}
use Rattle.tlsf_values.specs.declared.formula.Formula.TheVariants.{Sure, Flat}
use Rattle.tlsf_values.specs.declared.formula.Pairing.{Pairing}
use Rattle.tlsf_values.specs.declared.formula.Pairing.TheVariants as pairing
use Rattle.tlsf_values.specs.declared.formula.Connective.{Connective}
use Rattle.tlsf_values.specs.declared.formula.Connective.TheVariants as connective
use Rattle.tlsf_values.specs.declared.formula.Sign.{Sign}
use Rattle.tlsf_values.specs.declared.formula.Sign.TheVariants as sign
use Rattle.tlsf_values.specs.declared.work.Work.{Work}
use Rattle.tlsf_values.specs.Outcomes.{Outcome, gives, go_on, made}

abbrev pub pairing_of : Pairing → FormulaId → FormulaId → Node
pairing_of pairing.And i j = node.And i j
pairing_of pairing.Or i j = node.Or i j
pairing_of pairing.Implies i j = node.Implies i j
pairing_of pairing.Equiv i j = node.Equiv i j
pairing_of pairing.WeakUntil i j = node.WeakUntil i j
pairing_of pairing.Until i j = node.Until i j
pairing_of pairing.Release i j = node.Release i j

abbrev pub sign_of : Sign → FormulaId → Node
sign_of sign.Next i = node.Next i
sign_of sign.Finally i = node.Finally i
sign_of sign.Globally i = node.Globally i

abbrev pub implies : Bool → Bool → Bool
implies true b = b
implies false b = true

abbrev pub same_truth : Bool → Bool → Bool
same_truth true b = b
same_truth false b = not b

-- an operator of truths
abbrev pub truth_of : Connective → Bool → Bool → Bool
truth_of connective.And a b = a && b
truth_of connective.Or a b = a || b
truth_of connective.Implies a b = implies a b
truth_of connective.Equiv a b = same_truth a b

abbrev pub connective_of : Connective → Pairing
connective_of connective.And = pairing.And
connective_of connective.Or = pairing.Or
connective_of connective.Implies = pairing.Implies
connective_of connective.Equiv = pairing.Equiv

abbrev pub truth_node : Bool → Node
truth_node true = node.True
truth_node false = node.False

-- a truth becomes a node at the operator at this byte, which needs a formula
abbrev pub node_of : ℕ → Formula → Work → Outcome FormulaId
node_of place (Sure b) w = made place (truth_node b) w
node_of place (Flat id) w = gives id w

abbrev pub flat_made : ℕ → Node → Work → Outcome Formula
flat_made place n w = go_on (made place n w) (λ id w. gives (Flat id) w)

-- an operator over two formulas: the left one's node, the right one's, and its own
abbrev pub over_both : ℕ → Pairing → Formula → Formula → Work → Outcome Formula
over_both place p a b w = go_on (node_of place a w) (λ i w. go_on (node_of place b w) (λ j w. flat_made place (pairing_of p i j) w))

abbrev pub over_one : ℕ → Sign → Formula → Work → Outcome Formula
over_one place s a w = go_on (node_of place a w) (λ i w. flat_made place (sign_of s i) w)

-- a connective of two truths is a truth
abbrev pub connected : ℕ → Connective → Formula → Formula → Work → Outcome Formula
connected place c (Sure a) (Sure b) w = gives (Sure (truth_of c a b)) w
connected place c (Sure a) (Flat j) w = over_both place (connective_of c) (Sure a) (Flat j) w
connected place c (Flat i) b w = over_both place (connective_of c) (Flat i) b w

abbrev pub opposed : ℕ → Formula → Work → Outcome Formula
opposed place (Sure b) w = gives (Sure (not b)) w
opposed place (Flat id) w = flat_made place (node.Not id) w
