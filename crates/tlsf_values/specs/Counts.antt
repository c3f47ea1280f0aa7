-- Counted forms and joins over members: this project's profile of TLSF 1.1.
use Rattle.std.specs.Prelude.{ℕ, zero, suc, ◌+◌, ◌-◌, Bool, true, false, nat_le, List, [], ◌∷◌, Option, None, Some, ℤ, pos, negsuc}
use Rattle.ltl_formula.specs.declared.nodes.FormulaId.{FormulaId}
use Rattle.ltl_formula.specs.declared.nodes.Node.TheVariants as node
use Rattle.spec_faults.specs.declared.code.SpecCode.TheVariants.{NumberRange}
use Rattle.tlsf_syntax.specs.declared.expr.Op.{Op}
use Rattle.tlsf_syntax.specs.declared.expr.Op.TheVariants as op
use Rattle.tlsf_values.specs.declared.work.Work.{Work}
use Rattle.tlsf_values.specs.declared.value.Value.{Value}
use Rattle.tlsf_values.specs.declared.value.Value.TheVariants.{Flat}
use Rattle.tlsf_values.specs.declared.formula.Formula.{Formula}
use Rattle.tlsf_values.specs.declared.formula.Formula.TheVariants as formula
use Rattle.tlsf_values.specs.declared.formula.Pairing.{Pairing}
use Rattle.tlsf_values.specs.declared.formula.Connective.{Connective}
use Rattle.tlsf_values.specs.declared.formula.Connective.TheVariants as connective
use Rattle.tlsf_values.specs.Outcomes.{Outcome, gives, go_on, choose, counted, made, Checked, fine, faulty}
use Rattle.tlsf_values.specs.Formulas.{pairing_of, connective_of, truth_node, node_of, connected}

abbrev pub count_in : ℕ → ℤ → Checked ℕ
count_in place (pos n) = fine n
count_in place (negsuc n) = faulty NumberRange place

-- so many X's before a formula, each of them an evaluation
abbrev pub nexts : ℕ → ℕ → FormulaId → Work → Outcome FormulaId
nexts place zero id w = gives id w
nexts place (suc n) id w = go_on (counted place 1 w) (λ _ w. go_on (made place (node.Next id) w) (λ id w. nexts place n id w))

abbrev pub count_value : ℕ → ℕ → Formula → Work → Outcome Value
count_value place n x w = go_on (node_of place x w) (λ id w. go_on (nexts place n id w) (λ id w. gives (Flat id) w))

-- so many further `X[j] f`, joined to those so far
abbrev pub window_more : ℕ → Pairing → FormulaId → ℕ → ℕ → FormulaId → Work → Outcome FormulaId
window_more place p f j zero so_far w = gives so_far w
window_more place p f j (suc more) so_far w =
    go_on (nexts place j f w) (λ id w. go_on (made place (pairing_of p so_far id) w) (λ joined w. window_more place p f (j + 1) more joined w))

-- the `X[j] f` with j from m to n, joined to the left; m isn't above n
abbrev pub window_between : ℕ → Pairing → ℕ → ℕ → Formula → Work → Outcome FormulaId
window_between place p m n x w =
    go_on (node_of place x w) (λ f w. go_on (nexts place m f w) (λ first w. window_more place p f (m + 1) (n - m) first w))

-- what big operators and windows join by
abbrev pub joining_of : Op → Option Connective
joining_of op.And = Some connective.And
joining_of op.Or = Some connective.Or
joining_of _ = None

abbrev pub window_of : Op → Option Connective
window_of op.Finally = Some connective.Or
window_of op.Globally = Some connective.And
window_of _ = None

-- the truth of nothing joined
abbrev pub empty_truth : Connective → Bool
empty_truth connective.Or = false
empty_truth _ = true

abbrev pub window_value : ℕ → Connective → ℕ → ℕ → Formula → Work → Outcome Value
window_value place c m n x w =
    choose (nat_le m n) (λ w. go_on (window_between place (connective_of c) m n x w) (λ id w. gives (Flat id) w)) (λ w. go_on (made place (truth_node (empty_truth c)) w) (λ id w. gives (Flat id) w)) w

-- ---- big operators

-- joined to those so far, which stand on its left
abbrev pub joined_with : ℕ → Connective → Option Formula → Formula → Work → Outcome Formula
joined_with place c None x w = gives x w
joined_with place c (Some so_far) x w = connected place c so_far x w

-- what was joined, where there was something
abbrev pub joined_or_nothing : Connective → Option Formula → Formula
joined_or_nothing c None = formula.Sure (empty_truth c)
joined_or_nothing c (Some joined) = joined

-- the formulas of the members, joined to the left after those so far
abbrev pub joined_over : ℕ → Connective → (ℤ → Work → Outcome Formula) → List ℤ → Option Formula → Work → Outcome Formula
joined_over place c f [] None w = gives (formula.Sure (empty_truth c)) w
joined_over place c f [] (Some joined) w = gives joined w
joined_over place c f (z ∷ zs) so_far w = go_on (f z w) (λ x w. go_on (joined_with place c so_far x w) (λ joined w. joined_over place c f zs (Some joined) w))
