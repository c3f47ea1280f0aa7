-- Operators on values, each once its operands are evaluated. The sorts are tested from left to right. This project's profile of
-- TLSF 1.1.
use Rattle.std.specs.Prelude.{ℕ, ℤ}
use Rattle.std.specs.Ordering.{int_eq}
use Rattle.spec_faults.specs.declared.code.SpecCode.TheVariants.{WrongSort}
use Rattle.tlsf_syntax.specs.declared.expr.Op.{Op}
use Rattle.tlsf_syntax.specs.declared.expr.Op.TheVariants as op
use Rattle.tlsf_values.specs.declared.work.Work.{Work}
use Rattle.tlsf_values.specs.declared.value.Value.{Value}
use Rattle.tlsf_values.specs.declared.value.Value.TheVariants.{Number, Truth, Set, Bus, EnumValue, Flat}
use Rattle.tlsf_values.specs.declared.formula.Formula.{Formula}
use Rattle.tlsf_values.specs.declared.formula.Formula.TheVariants as formula
use Rattle.tlsf_values.specs.declared.formula.Pairing.{Pairing}
use Rattle.tlsf_values.specs.declared.formula.Pairing.TheVariants as pairing
use Rattle.tlsf_values.specs.declared.formula.Connective.{Connective}
use Rattle.tlsf_values.specs.declared.formula.Connective.TheVariants as connective
use Rattle.tlsf_values.specs.declared.formula.Sign.{Sign}
use Rattle.tlsf_values.specs.declared.formula.Sign.TheVariants as sign
use Rattle.tlsf_values.specs.declared.numbers.Arithmetic.{Arithmetic}
use Rattle.tlsf_values.specs.declared.numbers.Arithmetic.TheVariants as arithmetic_is
use Rattle.tlsf_values.specs.declared.numbers.Comparison.{Comparison}
use Rattle.tlsf_values.specs.declared.numbers.Comparison.TheVariants as comparison_is
use Rattle.tlsf_values.specs.declared.numbers.Places.{Places}
use Rattle.tlsf_values.specs.declared.set_operation.SetOperation.{SetOperation}
use Rattle.tlsf_values.specs.declared.set_operation.SetOperation.TheVariants as set_is
use Rattle.tlsf_values.specs.Outcomes.{Outcome, gives, fails, go_on, checked}
use Rattle.tlsf_values.specs.Sorts.{number_in, set_in, formula_in, formula_value}
use Rattle.tlsf_values.specs.Numbers.{computed, holds_of}
use Rattle.tlsf_values.specs.Sets.{is_in}
use Rattle.tlsf_values.specs.SetOperations.{combined}
use Rattle.tlsf_values.specs.Formulas.{over_both, over_one, connected, opposed}
use Rattle.tlsf_values.specs.Patterns.{matched}
use Rattle.tlsf_values.specs.Names.{Names, bus_at, patterns_at}

abbrev pub on_numbers : Places → Value → Value → (ℤ → ℤ → Work → Outcome Value) → Work → Outcome Value
on_numbers p a b f w = checked (number_in p.left a) (λ x w. checked (number_in p.right b) (λ y w. f x y w) w) w

abbrev pub arithmetic : Arithmetic → Places → Value → Value → Work → Outcome Value
arithmetic o p a b w = on_numbers p a b (λ x y w. checked (computed o p x y) (λ z w. gives (Number z) w) w) w

abbrev pub compared : Comparison → Places → Value → Value → Work → Outcome Value
compared o p a b w = on_numbers p a b (λ x y w. gives (Truth (holds_of o x y)) w) w

abbrev pub on_sets : SetOperation → Places → Value → Value → Work → Outcome Value
on_sets o p a b w = checked (set_in p.left a) (λ xs w. checked (set_in p.right b) (λ ys w. gives (Set (combined o xs ys)) w) w) w

abbrev pub element : Places → Value → Value → Work → Outcome Value
element p a b w = checked (number_in p.left a) (λ x w. checked (set_in p.right b) (λ ys w. gives (Truth (is_in ys x)) w) w) w

abbrev pub as_value : Outcome Formula → Outcome Value
as_value o = go_on o (λ z w. gives (formula_value z) w)

abbrev pub on_connective : Connective → Places → Value → Value → Work → Outcome Value
on_connective c p a b w = checked (formula_in p.left a) (λ x w. checked (formula_in p.right b) (λ y w. as_value (connected p.own c x y w)) w) w

abbrev pub on_pairing : Pairing → Places → Value → Value → Work → Outcome Value
on_pairing c p a b w = checked (formula_in p.left a) (λ x w. checked (formula_in p.right b) (λ y w. as_value (over_both p.own c x y w)) w) w

-- a bus is compared with a member, each by its place
abbrev pub matched_at : Names → Places → ℕ → ℕ → Work → Outcome Formula
matched_at names p k m w = matched p (bus_at names k).first (bus_at names k).width (patterns_at names m) w

-- the left operand is a number, a bus or a member, and the right one fits it
abbrev pub equated : Names → Places → Value → Value → Work → Outcome Formula
equated names p (Number x) b w = checked (number_in p.right b) (λ y w. gives (formula.Sure (int_eq x y)) w) w
equated names p (Bus k) (EnumValue m) w = matched_at names p k m w
equated names p (Bus k) _ w = fails WrongSort p.right
equated names p (EnumValue m) (Bus k) w = matched_at names p k m w
equated names p (EnumValue m) _ w = fails WrongSort p.right
equated names p (Truth a) b w = fails WrongSort p.left
equated names p (Set zs) b w = fails WrongSort p.left
equated names p (Flat id) b w = fails WrongSort p.left

-- an operator with two operands
abbrev pub operated : Names → Op → Places → Value → Value → Work → Outcome Value
operated names op.Mul p a b w = arithmetic arithmetic_is.Mul p a b w
operated names op.Div p a b w = arithmetic arithmetic_is.Div p a b w
operated names op.Rem p a b w = arithmetic arithmetic_is.Rem p a b w
operated names op.Plus p a b w = arithmetic arithmetic_is.Plus p a b w
operated names op.Minus p a b w = arithmetic arithmetic_is.Minus p a b w
operated names op.Difference p a b w = on_sets set_is.Difference p a b w
operated names op.Meet p a b w = on_sets set_is.Meet p a b w
operated names op.Join p a b w = on_sets set_is.Join p a b w
operated names op.Equal p a b w = as_value (equated names p a b w)
operated names op.Unequal p a b w = as_value (go_on (equated names p a b w) (λ z w. opposed p.own z w))
operated names op.Less p a b w = compared comparison_is.Less p a b w
operated names op.LessEqual p a b w = compared comparison_is.LessEqual p a b w
operated names op.Greater p a b w = compared comparison_is.Greater p a b w
operated names op.GreaterEqual p a b w = compared comparison_is.GreaterEqual p a b w
operated names op.Element p a b w = element p a b w
operated names op.And p a b w = on_connective connective.And p a b w
operated names op.Or p a b w = on_connective connective.Or p a b w
operated names op.Implies p a b w = on_connective connective.Implies p a b w
operated names op.Equiv p a b w = on_connective connective.Equiv p a b w
operated names op.WeakUntil p a b w = on_pairing pairing.WeakUntil p a b w
operated names op.Until p a b w = on_pairing pairing.Until p a b w
operated names op.Release p a b w = on_pairing pairing.Release p a b w
operated names _ p a b w = fails WrongSort p.own

-- the signs before one operand, at these bytes
abbrev pub signed : Sign → ℕ → ℕ → Value → Work → Outcome Value
signed o own at a w = checked (formula_in at a) (λ x w. as_value (over_one own o x w)) w

abbrev pub denied : ℕ → ℕ → Value → Work → Outcome Value
denied own at a w = checked (formula_in at a) (λ x w. as_value (opposed own x w)) w

abbrev pub prefixed : Op → ℕ → ℕ → Value → Work → Outcome Value
prefixed op.Not own at a w = denied own at a w
prefixed op.Next own at a w = signed sign.Next own at a w
prefixed op.Finally own at a w = signed sign.Finally own at a w
prefixed op.Globally own at a w = signed sign.Globally own at a w
prefixed _ own at a w = fails WrongSort own
