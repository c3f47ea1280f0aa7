-- Operators keep what they give within wider limits.
use Rattle.std.proofs.Common.{ℕ, zero, suc, ◌+◌, ◌-◌, Bool, true, false, List, [], ◌∷◌, Option, None, Some}
use Rattle.std.specs.Prelude.{not, nat_le, ℤ}
use Rattle.text_limits.specs.declared.Limits.{Limits}
use Rattle.ltl_formula.specs.declared.nodes.FormulaId.{FormulaId}
use Rattle.ltl_formula.specs.declared.nodes.Node.{Node}
use Rattle.ltl_formula.specs.declared.nodes.Node.TheVariants as node
use Rattle.tlsf_syntax.specs.Tree.{Pattern}
use Rattle.tlsf_syntax.specs.declared.expr.Op.{Op}
use Rattle.tlsf_syntax.specs.declared.expr.Op.TheVariants as op
use Rattle.tlsf_values.specs.declared.work.Work.{Work}
use Rattle.tlsf_values.specs.declared.value.Value.{Value}
use Rattle.tlsf_values.specs.declared.value.Value.TheVariants as value_is
use Rattle.tlsf_values.specs.declared.formula.Formula.{Formula}
use Rattle.tlsf_values.specs.declared.formula.Formula.TheVariants as formula
use Rattle.tlsf_values.specs.declared.formula.Pairing.{Pairing}
use Rattle.tlsf_values.specs.declared.formula.Pairing.TheVariants as pairing
use Rattle.tlsf_values.specs.declared.formula.Connective.{Connective}
use Rattle.tlsf_values.specs.declared.formula.Connective.TheVariants as connective
use Rattle.tlsf_values.specs.declared.formula.Sign.{Sign}
use Rattle.tlsf_values.specs.declared.formula.Sign.TheVariants as sign
use Rattle.tlsf_values.specs.declared.numbers.Arithmetic.{Arithmetic}
use Rattle.tlsf_values.specs.declared.numbers.Arithmetic.TheVariants as arithmetic_is
use Rattle.tlsf_values.specs.declared.numbers.Comparison.{Comparison}
use Rattle.tlsf_values.specs.declared.numbers.Comparison.TheVariants as comparison_is
use Rattle.tlsf_values.specs.declared.numbers.Places.{Places}
use Rattle.tlsf_values.specs.declared.set_operation.SetOperation.{SetOperation}
use Rattle.tlsf_values.specs.declared.set_operation.SetOperation.TheVariants as set_is
use Rattle.tlsf_values.specs.Outcomes.{Outcome, counted, made}
use Rattle.tlsf_values.specs.Sorts.{number_in, set_in, formula_in, formula_value}
use Rattle.tlsf_values.specs.Numbers.{computed}
use Rattle.tlsf_values.specs.Formulas.{pairing_of, connective_of, sign_of, truth_of, truth_node, node_of, flat_made, over_both, over_one, connected, opposed}
use Rattle.tlsf_values.specs.Counts.{nexts, count_value, window_more, window_between, window_value, empty_truth, joined_with, joined_over}
use Rattle.tlsf_values.specs.Patterns.{joined_to, or_truth, bit_made, bits_made, values_made, are_wide, matched}
use Rattle.tlsf_values.specs.Names.{Names, bus_at, patterns_at}
use Rattle.tlsf_values.specs.Operators.{on_numbers, arithmetic, compared, on_sets, element, as_value, on_connective, on_pairing, matched_at, equated, operated, signed, denied, prefixed}
use Rattle.limit_laws.specs.Wider.{AreWider}
use Rattle.limit_laws.proofs.Kept.{Kept, Keeps, same_given, refused_first, kept_go_on, kept_checked, kept_choose, kept_counted, kept_made}

module _ (small large : Limits) (wider : AreWider small large) where
  abbrev Stays : {A : Type 0} → (Work → Outcome A) → Type 0
  Stays f = Keeps small large f

  counts : (place n : ℕ) → Stays (counted place n)
  counts = kept_counted small large wider

  makes : (place : ℕ) (n : Node) → Stays (made place n)
  makes = kept_made small large wider

  -- ---- formulas

  pub kept_node_of : (place : ℕ) (x : Formula) → Stays (node_of place x)
  kept_node_of place (formula.Sure b) = makes place (truth_node b)
  kept_node_of place (formula.Flat id) = same_given id

  kept_flat_made : (place : ℕ) (n : Node) → Stays (flat_made place n)
  kept_flat_made place n done nodes = kept_go_on _ _ (makes place n done nodes) (λ id. same_given (formula.Flat id))

  kept_over_both : (place : ℕ) (p : Pairing) (a b : Formula) → Stays (over_both place p a b)
  kept_over_both place p a b done nodes =
      kept_go_on _ _ (kept_node_of place a done nodes) (λ i done nodes. kept_go_on _ _ (kept_node_of place b done nodes) (λ j. kept_flat_made place (pairing_of p i j)))

  kept_over_one : (place : ℕ) (s : Sign) (a : Formula) → Stays (over_one place s a)
  kept_over_one place s a done nodes = kept_go_on _ _ (kept_node_of place a done nodes) (λ i. kept_flat_made place (sign_of s i))

  pub kept_connected : (place : ℕ) (c : Connective) (a b : Formula) → Stays (connected place c a b)
  kept_connected place c (formula.Sure a) (formula.Sure b) = same_given (formula.Sure (truth_of c a b))
  kept_connected place c (formula.Sure a) (formula.Flat j) = kept_over_both place (connective_of c) (formula.Sure a) (formula.Flat j)
  kept_connected place c (formula.Flat i) b = kept_over_both place (connective_of c) (formula.Flat i) b

  kept_opposed : (place : ℕ) (a : Formula) → Stays (opposed place a)
  kept_opposed place (formula.Sure b) = same_given (formula.Sure (not b))
  kept_opposed place (formula.Flat id) = kept_flat_made place (node.Not id)

  -- ---- counted forms

  kept_nexts : (place n : ℕ) (id : FormulaId) → Stays (nexts place n id)
  kept_nexts place zero id = same_given id
  kept_nexts place (suc n) id = λ done nodes.
      kept_go_on _ _ (counts place 1 done nodes) (λ _ done nodes. kept_go_on _ _ (makes place (node.Next id) done nodes) (λ following. kept_nexts place n following))

  pub kept_count_value : (place n : ℕ) (x : Formula) → Stays (count_value place n x)
  kept_count_value place n x done nodes =
      kept_go_on _ _ (kept_node_of place x done nodes) (λ id done nodes. kept_go_on _ _ (kept_nexts place n id done nodes) (λ id. same_given (value_is.Flat id)))

  kept_window_more : (place : ℕ) (p : Pairing) (f : FormulaId) (j more : ℕ) (so_far : FormulaId) → Stays (window_more place p f j more so_far)
  kept_window_more place p f j zero so_far = same_given so_far
  kept_window_more place p f j (suc more) so_far = λ done nodes.
      kept_go_on _ _ (kept_nexts place j f done nodes) (λ id done nodes. kept_go_on _ _ (makes place (pairing_of p so_far id) done nodes) (λ joined. kept_window_more place p f (j + 1) more joined))

  kept_window_between : (place : ℕ) (p : Pairing) (m n : ℕ) (x : Formula) → Stays (window_between place p m n x)
  kept_window_between place p m n x done nodes =
      kept_go_on _ _ (kept_node_of place x done nodes) (λ f done nodes. kept_go_on _ _ (kept_nexts place m f done nodes) (λ first. kept_window_more place p f (m + 1) (n - m) first))

  pub kept_window_value : (place : ℕ) (c : Connective) (m n : ℕ) (x : Formula) → Stays (window_value place c m n x)
  kept_window_value place c m n x done nodes =
      kept_choose (nat_le m n) _ _ _ _ _ _
      (kept_go_on _ _ (kept_window_between place (connective_of c) m n x done nodes) (λ id. same_given (value_is.Flat id)))
      (kept_go_on _ _ (makes place (truth_node (empty_truth c)) done nodes) (λ id. same_given (value_is.Flat id)))

  kept_joined_with : (place : ℕ) (c : Connective) (so_far : Option Formula) (x : Formula) → Stays (joined_with place c so_far x)
  kept_joined_with place c None x = same_given x
  kept_joined_with place c (Some so_far) x = kept_connected place c so_far x

  pub kept_joined_over : (place : ℕ) (c : Connective) (f : ℤ → Work → Outcome Formula) → ((z : ℤ) → Stays (f z)) → (zs : List ℤ) (so_far : Option Formula) → Stays (joined_over place c f zs so_far)
  kept_joined_over place c f each [] None = same_given (formula.Sure (empty_truth c))
  kept_joined_over place c f each [] (Some joined) = same_given joined
  kept_joined_over place c f each (z ∷ zs) so_far = λ done nodes.
      kept_go_on _ _ (each z done nodes) (λ x done nodes. kept_go_on _ _ (kept_joined_with place c so_far x done nodes) (λ joined. kept_joined_over place c f each zs (Some joined)))

  -- ---- values of enumerations

  kept_joined_to : (place : ℕ) (p : Pairing) (so_far : Option FormulaId) (id : FormulaId) → Stays (joined_to place p so_far id)
  kept_joined_to place p None id = same_given id
  kept_joined_to place p (Some so_far) id = makes place (pairing_of p so_far id)

  kept_or_truth : (place : ℕ) (b : Bool) (so_far : Option FormulaId) → Stays (or_truth place b so_far)
  kept_or_truth place b None = makes place (truth_node b)
  kept_or_truth place b (Some id) = same_given id

  kept_bit_made : (place s : ℕ) (b : Bool) → Stays (bit_made place s b)
  kept_bit_made place s true = makes place (node.Signal s)
  kept_bit_made place s false = λ done nodes. kept_go_on _ _ (makes place (node.Signal s) done nodes) (λ id. makes place (node.Not id))

  kept_bits_made : (place s : ℕ) (bits : List (Option Bool)) (so_far : Option FormulaId) → Stays (bits_made place s bits so_far)
  kept_bits_made place s [] so_far = kept_or_truth place true so_far
  kept_bits_made place s (None ∷ bits) so_far = kept_bits_made place (s + 1) bits so_far
  kept_bits_made place s (Some b ∷ bits) so_far = λ done nodes.
      kept_go_on _ _ (kept_bit_made place s b done nodes) (λ id done nodes. kept_go_on _ _ (kept_joined_to place pairing.And so_far id done nodes) (λ both. kept_bits_made place (s + 1) bits (Some both)))

  pub kept_values_made : (place first : ℕ) (ps : List Pattern) (so_far : Option FormulaId) → Stays (values_made place first ps so_far)
  kept_values_made place first [] so_far = kept_or_truth place false so_far
  kept_values_made place first (p ∷ ps) so_far = λ done nodes.
      kept_go_on _ _ (kept_bits_made place first p.bits None done nodes) (λ id done nodes. kept_go_on _ _ (kept_joined_to place pairing.Or so_far id done nodes) (λ either. kept_values_made place first ps (Some either)))

  kept_matched : (p : Places) (first width : ℕ) (ps : List Pattern) → Stays (matched p first width ps)
  kept_matched p first width ps done nodes =
      kept_choose (are_wide width ps) _ _ _ _ _ _ (kept_go_on _ _ (kept_values_made p.own first ps None done nodes) (λ id. same_given (formula.Flat id))) (refused_first _ _ _)

  -- ---- operators

  kept_on_numbers : (p : Places) (a b : Value) (f : ℤ → ℤ → Work → Outcome Value) → ((x y : ℤ) → Stays (f x y)) → Stays (on_numbers p a b f)
  kept_on_numbers p a b f each done nodes =
      kept_checked (number_in p.left a) _ _ _ _ (λ x. kept_checked (number_in p.right b) _ _ _ _ (λ y. each x y done nodes))

  kept_arithmetic : (o : Arithmetic) (p : Places) (a b : Value) → Stays (arithmetic o p a b)
  kept_arithmetic o p a b = kept_on_numbers p a b _ (λ x y done nodes. kept_checked (computed o p x y) _ _ _ _ (λ z. same_given (value_is.Number z) done nodes))

  kept_compared : (o : Comparison) (p : Places) (a b : Value) → Stays (compared o p a b)
  kept_compared o p a b = kept_on_numbers p a b _ (λ x y. same_given _)

  kept_on_sets : (o : SetOperation) (p : Places) (a b : Value) → Stays (on_sets o p a b)
  kept_on_sets o p a b done nodes = kept_checked (set_in p.left a) _ _ _ _ (λ xs. kept_checked (set_in p.right b) _ _ _ _ (λ ys. same_given _ done nodes))

  kept_element : (p : Places) (a b : Value) → Stays (element p a b)
  kept_element p a b done nodes = kept_checked (number_in p.left a) _ _ _ _ (λ x. kept_checked (set_in p.right b) _ _ _ _ (λ ys. same_given _ done nodes))

  pub kept_as_value : {o p : Outcome Formula} → Kept small large o p → Kept small large (as_value o) (as_value p)
  kept_as_value h = kept_go_on _ _ h (λ z. same_given (formula_value z))

  kept_on_connective : (c : Connective) (p : Places) (a b : Value) → Stays (on_connective c p a b)
  kept_on_connective c p a b done nodes =
      kept_checked (formula_in p.left a) _ _ _ _ (λ x. kept_checked (formula_in p.right b) _ _ _ _ (λ y. kept_as_value (kept_connected p.own c x y done nodes)))

  kept_on_pairing : (c : Pairing) (p : Places) (a b : Value) → Stays (on_pairing c p a b)
  kept_on_pairing c p a b done nodes =
      kept_checked (formula_in p.left a) _ _ _ _ (λ x. kept_checked (formula_in p.right b) _ _ _ _ (λ y. kept_as_value (kept_over_both p.own c x y done nodes)))

  kept_matched_at : (names : Names) (p : Places) (k m : ℕ) → Stays (matched_at names p k m)
  kept_matched_at names p k m = kept_matched p (bus_at names k).first (bus_at names k).width (patterns_at names m)

  kept_equated : (names : Names) (p : Places) (a b : Value) → Stays (equated names p a b)
  kept_equated names p (value_is.Number x) b = λ done nodes. kept_checked (number_in p.right b) _ _ _ _ (λ y. same_given _ done nodes)
  kept_equated names p (value_is.Bus k) (value_is.EnumValue m) = kept_matched_at names p k m
  kept_equated names p (value_is.Bus k) _ = λ done nodes. refused_first _ _ _
  kept_equated names p (value_is.EnumValue m) (value_is.Bus k) = kept_matched_at names p k m
  kept_equated names p (value_is.EnumValue m) _ = λ done nodes. refused_first _ _ _
  kept_equated names p (value_is.Truth a) b = λ done nodes. refused_first _ _ _
  kept_equated names p (value_is.Set zs) b = λ done nodes. refused_first _ _ _
  kept_equated names p (value_is.Flat id) b = λ done nodes. refused_first _ _ _

  pub kept_operated : (names : Names) (o : Op) (p : Places) (a b : Value) → Stays (operated names o p a b)
  kept_operated names op.Mul p a b = kept_arithmetic arithmetic_is.Mul p a b
  kept_operated names op.Div p a b = kept_arithmetic arithmetic_is.Div p a b
  kept_operated names op.Rem p a b = kept_arithmetic arithmetic_is.Rem p a b
  kept_operated names op.Plus p a b = kept_arithmetic arithmetic_is.Plus p a b
  kept_operated names op.Minus p a b = kept_arithmetic arithmetic_is.Minus p a b
  kept_operated names op.Difference p a b = kept_on_sets set_is.Difference p a b
  kept_operated names op.Meet p a b = kept_on_sets set_is.Meet p a b
  kept_operated names op.Join p a b = kept_on_sets set_is.Join p a b
  kept_operated names op.Equal p a b = λ done nodes. kept_as_value (kept_equated names p a b done nodes)
  kept_operated names op.Unequal p a b = λ done nodes. kept_as_value (kept_go_on _ _ (kept_equated names p a b done nodes) (λ z. kept_opposed p.own z))
  kept_operated names op.Less p a b = kept_compared comparison_is.Less p a b
  kept_operated names op.LessEqual p a b = kept_compared comparison_is.LessEqual p a b
  kept_operated names op.Greater p a b = kept_compared comparison_is.Greater p a b
  kept_operated names op.GreaterEqual p a b = kept_compared comparison_is.GreaterEqual p a b
  kept_operated names op.Element p a b = kept_element p a b
  kept_operated names op.And p a b = kept_on_connective connective.And p a b
  kept_operated names op.Or p a b = kept_on_connective connective.Or p a b
  kept_operated names op.Implies p a b = kept_on_connective connective.Implies p a b
  kept_operated names op.Equiv p a b = kept_on_connective connective.Equiv p a b
  kept_operated names op.WeakUntil p a b = kept_on_pairing pairing.WeakUntil p a b
  kept_operated names op.Until p a b = kept_on_pairing pairing.Until p a b
  kept_operated names op.Release p a b = kept_on_pairing pairing.Release p a b
  kept_operated names _ p a b = λ done nodes. refused_first _ _ _

  kept_signed : (o : Sign) (own at : ℕ) (a : Value) → Stays (signed o own at a)
  kept_signed o own at a done nodes = kept_checked (formula_in at a) _ _ _ _ (λ x. kept_as_value (kept_over_one own o x done nodes))

  kept_denied : (own at : ℕ) (a : Value) → Stays (denied own at a)
  kept_denied own at a done nodes = kept_checked (formula_in at a) _ _ _ _ (λ x. kept_as_value (kept_opposed own x done nodes))

  pub kept_prefixed : (o : Op) (own at : ℕ) (a : Value) → Stays (prefixed o own at a)
  kept_prefixed op.Not own at a = kept_denied own at a
  kept_prefixed op.Next own at a = kept_signed sign.Next own at a
  kept_prefixed op.Finally own at a = kept_signed sign.Finally own at a
  kept_prefixed op.Globally own at a = kept_signed sign.Globally own at a
  kept_prefixed _ own at a = λ done nodes. refused_first _ _ _
