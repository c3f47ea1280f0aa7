-- Operators on values, against the same operators on senses.
use Rattle.std.proofs.Common.{◌≡◌, ℕ, ◌+◌, ◌≤◌, Bool, true, false, List, ℤ, sym, subst}
use Rattle.std.specs.Prelude.{◌+ℤ◌, ◌-ℤ◌, ◌*ℤ◌, int_div, int_rem, pos}
use Rattle.std.specs.Ordering.{int_eq}
use Rattle.letters_and_lassos.specs.Word.{Word}
use Rattle.spec_faults.specs.declared.code.SpecCode.TheVariants.{NumberRange, ZeroDivisor}
use Rattle.tlsf_syntax.specs.declared.expr.Op.{Op}
use Rattle.tlsf_syntax.specs.declared.expr.Op.TheVariants as op
use Rattle.tlsf_syntax.specs.Tree.{Pattern}
use Rattle.tlsf_values.specs.declared.work.Work.{Work}
use Rattle.tlsf_values.specs.declared.value.Value.{Value}
use Rattle.tlsf_values.specs.declared.value.Value.TheVariants.{Number, Truth, Set}
use Rattle.tlsf_values.specs.declared.formula.Formula.TheVariants as formula
use Rattle.tlsf_values.specs.declared.formula.Pairing.{Pairing}
use Rattle.tlsf_values.specs.declared.formula.Pairing.TheVariants as pairing
use Rattle.tlsf_values.specs.declared.formula.Connective.{Connective}
use Rattle.tlsf_values.specs.declared.formula.Connective.TheVariants as connective
use Rattle.tlsf_values.specs.declared.formula.Sign.{Sign}
use Rattle.tlsf_values.specs.declared.formula.Sign.TheVariants as sign
use Rattle.tlsf_values.specs.declared.numbers.Arithmetic.{Arithmetic}
use Rattle.tlsf_values.specs.declared.numbers.Arithmetic.TheVariants as arithmetic_is
use Rattle.tlsf_values.specs.declared.numbers.Comparison.{Comparison}
use Rattle.tlsf_values.specs.declared.numbers.Comparison.TheVariants as comparison_is
use Rattle.tlsf_values.specs.declared.numbers.Places.{Places}
use Rattle.tlsf_values.specs.declared.set_operation.SetOperation.{SetOperation}
use Rattle.tlsf_values.specs.declared.set_operation.SetOperation.TheVariants as set_is
use Rattle.tlsf_values.specs.Outcomes.{fine, faulty}
use Rattle.tlsf_values.specs.Names.{Names, bus_at, patterns_at}
use Rattle.tlsf_values.specs.Numbers.{either, fits, in_range, divided, computed, holds_of}
use Rattle.tlsf_values.specs.SetOperations.{combined}
use Rattle.tlsf_values.specs.Patterns.{are_wide, matched}
use Rattle.tlsf_values.specs.Operators.{arithmetic, compared, on_sets, element, on_connective, on_pairing, equated, operated, signed, denied, prefixed}
use Rattle.tlsf_expand.specs.Senses as senses
use Rattle.tlsf_expand.specs.Senses.{Sense, a_number, a_set, a_bus, a_member, a_truth, a_formula, nothing, true_in, has_value}
use Rattle.tlsf_expand.proofs.Kept.{IsGood, Keeps, refuses, keeps_go_on, keeps_given, keeps_checked, keeps_choose}
use Rattle.tlsf_expand.proofs.Alike.{Alike, alike_number, alike_set, alike_bus, alike_member, alike_truth, AlikeFormula, alike_sure}
use Rattle.tlsf_expand.proofs.Connected.{connective_truth, pairing_truths, sign_truths, keeps_flat, keeps_connected, keeps_over_both, keeps_over_one, keeps_opposed, keeps_as_value, keeps_formula_in}
use Rattle.tlsf_expand.proofs.Named.{HasPlainNames}
use Rattle.tlsf_expand.proofs.Valued.{keeps_one_value, wide_fit}

-- ---- numbers

abbrev result_of : Arithmetic → ℤ → ℤ → ℤ
result_of arithmetic_is.Mul x y = x *ℤ y
result_of arithmetic_is.Div x y = int_div x y
result_of arithmetic_is.Rem x y = int_rem x y
result_of arithmetic_is.Plus x y = x +ℤ y
result_of arithmetic_is.Minus x y = x -ℤ y

in_range-is : (place : ℕ) (z u : ℤ) → in_range place z ≡ fine u → z ≡ u
in_range-is place z u e = by (fits z) e
  where
    by : (b : Bool) → either b (fine z) (faulty NumberRange place) ≡ fine u → z ≡ u
    by true e = cc
    by false e = cc

divided-is : (p : Places) (y z u : ℤ) → divided p y z ≡ fine u → z ≡ u
divided-is p y z u e = by (int_eq y (pos 0)) e
  where
    by : (b : Bool) → either b (faulty ZeroDivisor p.right) (in_range p.own z) ≡ fine u → z ≡ u
    by true e = cc
    by false e = in_range-is p.own z u e

computed-is : (o : Arithmetic) (p : Places) (x y u : ℤ) → computed o p x y ≡ fine u → result_of o x y ≡ u
computed-is arithmetic_is.Mul p x y u e = in_range-is p.own (x *ℤ y) u e
computed-is arithmetic_is.Div p x y u e = divided-is p y (int_div x y) u e
computed-is arithmetic_is.Rem p x y u e = divided-is p y (int_rem x y) u e
computed-is arithmetic_is.Plus p x y u e = in_range-is p.own (x +ℤ y) u e
computed-is arithmetic_is.Minus p x y u e = in_range-is p.own (x -ℤ y) u e

module _ {top : ℕ} (w : Word) where
  keeps_arithmetic : (o : Arithmetic) (p : Places) (a b : Value) (s t : Sense) (work : Work) → IsGood top work.formulas → Alike w work.formulas a s → Alike w work.formulas b t
      → Keeps top work.formulas (λ v nodes. Alike w nodes v (senses.arithmetic (result_of o) s t)) (arithmetic o p a b work)
  keeps_arithmetic o p _ _ _ _ work list (alike_number x) (alike_number y) =
      keeps_checked (computed o p x y) _ work _ (λ z e.
      keeps_given _ (Number z) work list (subst (λ u. Alike w work.formulas (Number z) (a_number u)) (sym (computed-is o p x y z e)) (alike_number z)))
  keeps_arithmetic o p _ _ _ _ work list _ _ = refuses _ _

  keeps_compared : (o : Comparison) (p : Places) (a b : Value) (s t : Sense) (work : Work) → IsGood top work.formulas → Alike w work.formulas a s → Alike w work.formulas b t
      → Keeps top work.formulas (λ v nodes. Alike w nodes v (senses.comparison (holds_of o) s t)) (compared o p a b work)
  keeps_compared o p _ _ _ _ work list (alike_number x) (alike_number y) = keeps_given _ (Truth (holds_of o x y)) work list (alike_truth (holds_of o x y))
  keeps_compared o p _ _ _ _ work list _ _ = refuses _ _

  keeps_sets : (o : SetOperation) (p : Places) (a b : Value) (s t : Sense) (work : Work) → IsGood top work.formulas → Alike w work.formulas a s → Alike w work.formulas b t
      → Keeps top work.formulas (λ v nodes. Alike w nodes v (senses.of_sets (combined o) s t)) (on_sets o p a b work)
  keeps_sets o p _ _ _ _ work list (alike_set xs) (alike_set ys) = keeps_given _ (Set (combined o xs ys)) work list (alike_set (combined o xs ys))
  keeps_sets o p _ _ _ _ work list _ _ = refuses _ _

  keeps_element : (p : Places) (a b : Value) (s t : Sense) (work : Work) → IsGood top work.formulas → Alike w work.formulas a s → Alike w work.formulas b t
      → Keeps top work.formulas (λ v nodes. Alike w nodes v (senses.element s t)) (element p a b work)
  keeps_element p _ _ _ _ work list (alike_number x) (alike_set ys) = keeps_given _ _ work list (alike_truth _)
  keeps_element p _ _ _ _ work list _ _ = refuses _ _

  keeps_connective : (c : Connective) (p : Places) (a b : Value) (s t : Sense) (work : Work) → IsGood top work.formulas → Alike w work.formulas a s → Alike w work.formulas b t
      → Keeps top work.formulas (λ v nodes. Alike w nodes v (senses.connected (connective_truth c) s t)) (on_connective c p a b work)
  keeps_connective c p a b s t work list ha hb =
      keeps_formula_in w p.left a s _ work _ ha (λ x hx. keeps_formula_in w p.right b t _ work _ hb (λ y hy.
      keeps_as_value w (senses.connected (connective_truth c) s t) (keeps_connected w p.own c x y s t work list hx hy)))

  keeps_pairing : (c : Pairing) (p : Places) (a b : Value) (s t : Sense) (work : Work) → IsGood top work.formulas → Alike w work.formulas a s → Alike w work.formulas b t
      → Keeps top work.formulas (λ v nodes. Alike w nodes v (a_formula (pairing_truths w c (true_in s) (true_in t)))) (on_pairing c p a b work)
  keeps_pairing c p a b s t work list ha hb =
      keeps_formula_in w p.left a s _ work _ ha (λ x hx. keeps_formula_in w p.right b t _ work _ hb (λ y hy.
      keeps_as_value w (a_formula (pairing_truths w c (true_in s) (true_in t))) (keeps_over_both w p.own c x y s t work list hx hy)))

  -- ---- enumerations

  keeps_matched : (p : Places) (first width : ℕ) (ps : List Pattern) (work : Work) → IsGood top work.formulas → first + width ≤ top
      → Keeps top work.formulas (λ z nodes. AlikeFormula w nodes z (a_formula (has_value w first ps))) (matched p first width ps work)
  keeps_matched p first width ps work list small =
      keeps_choose (are_wide width ps) _ _ work _ (λ wide. keeps_flat w (has_value w first ps) (keeps_one_value w p.own first ps work list (wide_fit top first width ps small wide))) (λ _. refuses _ _)

  keeps_equated : (names : Names) → HasPlainNames top names → (p : Places) (a b : Value) (s t : Sense) (work : Work) → IsGood top work.formulas → Alike w work.formulas a s → Alike w work.formulas b t
      → Keeps top work.formulas (λ z nodes. AlikeFormula w nodes z (senses.equality w names s t)) (equated names p a b work)
  keeps_equated names has p _ _ _ _ work list (alike_number x) (alike_number y) = keeps_given _ (formula.Sure (int_eq x y)) work list (alike_sure (int_eq x y))
  keeps_equated names has p _ _ _ _ work list (alike_bus k) (alike_member m) = keeps_matched p (bus_at names k).first (bus_at names k).width (patterns_at names m) work list (has.buses_below k)
  keeps_equated names has p _ _ _ _ work list (alike_member m) (alike_bus k) = keeps_matched p (bus_at names k).first (bus_at names k).width (patterns_at names m) work list (has.buses_below k)
  keeps_equated names has p _ _ _ _ work list _ _ = refuses _ _

  keeps_unequal : (names : Names) → HasPlainNames top names → (p : Places) (a b : Value) (s t : Sense) (work : Work) → IsGood top work.formulas → Alike w work.formulas a s → Alike w work.formulas b t
      → Keeps top work.formulas (λ v nodes. Alike w nodes v (senses.opposite (senses.equality w names s t))) (operated names op.Unequal p a b work)
  keeps_unequal names has p a b s t work list ha hb =
      keeps_as_value w (senses.opposite (senses.equality w names s t))
      (keeps_go_on _ _ (keeps_equated names has p a b s t work list ha hb) (λ z work1 list1 grows1 hz. keeps_opposed w p.own z (senses.equality w names s t) work1 list1 hz))

  -- ---- all operators

  pub keeps_operated : (names : Names) → HasPlainNames top names → (o : Op) (p : Places) (a b : Value) (s t : Sense) (work : Work) → IsGood top work.formulas → Alike w work.formulas a s → Alike w work.formulas b t
      → Keeps top work.formulas (λ v nodes. Alike w nodes v (senses.operated w names o s t)) (operated names o p a b work)
  keeps_operated names has op.Mul p a b s t work list ha hb = keeps_arithmetic arithmetic_is.Mul p a b s t work list ha hb
  keeps_operated names has op.Div p a b s t work list ha hb = keeps_arithmetic arithmetic_is.Div p a b s t work list ha hb
  keeps_operated names has op.Rem p a b s t work list ha hb = keeps_arithmetic arithmetic_is.Rem p a b s t work list ha hb
  keeps_operated names has op.Plus p a b s t work list ha hb = keeps_arithmetic arithmetic_is.Plus p a b s t work list ha hb
  keeps_operated names has op.Minus p a b s t work list ha hb = keeps_arithmetic arithmetic_is.Minus p a b s t work list ha hb
  keeps_operated names has op.Difference p a b s t work list ha hb = keeps_sets set_is.Difference p a b s t work list ha hb
  keeps_operated names has op.Meet p a b s t work list ha hb = keeps_sets set_is.Meet p a b s t work list ha hb
  keeps_operated names has op.Join p a b s t work list ha hb = keeps_sets set_is.Join p a b s t work list ha hb
  keeps_operated names has op.Equal p a b s t work list ha hb = keeps_as_value w (senses.equality w names s t) (keeps_equated names has p a b s t work list ha hb)
  keeps_operated names has op.Unequal p a b s t work list ha hb = keeps_unequal names has p a b s t work list ha hb
  keeps_operated names has op.Less p a b s t work list ha hb = keeps_compared comparison_is.Less p a b s t work list ha hb
  keeps_operated names has op.LessEqual p a b s t work list ha hb = keeps_compared comparison_is.LessEqual p a b s t work list ha hb
  keeps_operated names has op.Greater p a b s t work list ha hb = keeps_compared comparison_is.Greater p a b s t work list ha hb
  keeps_operated names has op.GreaterEqual p a b s t work list ha hb = keeps_compared comparison_is.GreaterEqual p a b s t work list ha hb
  keeps_operated names has op.Element p a b s t work list ha hb = keeps_element p a b s t work list ha hb
  keeps_operated names has op.And p a b s t work list ha hb = keeps_connective connective.And p a b s t work list ha hb
  keeps_operated names has op.Or p a b s t work list ha hb = keeps_connective connective.Or p a b s t work list ha hb
  keeps_operated names has op.Implies p a b s t work list ha hb = keeps_connective connective.Implies p a b s t work list ha hb
  keeps_operated names has op.Equiv p a b s t work list ha hb = keeps_connective connective.Equiv p a b s t work list ha hb
  keeps_operated names has op.WeakUntil p a b s t work list ha hb = keeps_pairing pairing.WeakUntil p a b s t work list ha hb
  keeps_operated names has op.Until p a b s t work list ha hb = keeps_pairing pairing.Until p a b s t work list ha hb
  keeps_operated names has op.Release p a b s t work list ha hb = keeps_pairing pairing.Release p a b s t work list ha hb
  keeps_operated names has op.Not p a b s t work list ha hb = refuses _ _
  keeps_operated names has op.Next p a b s t work list ha hb = refuses _ _
  keeps_operated names has op.Finally p a b s t work list ha hb = refuses _ _
  keeps_operated names has op.Globally p a b s t work list ha hb = refuses _ _

  keeps_signed : (o : Sign) (own at : ℕ) (a : Value) (s : Sense) (work : Work) → IsGood top work.formulas → Alike w work.formulas a s
      → Keeps top work.formulas (λ v nodes. Alike w nodes v (a_formula (sign_truths w o (true_in s)))) (signed o own at a work)
  keeps_signed o own at a s work list ha =
      keeps_formula_in w at a s _ work _ ha (λ x hx. keeps_as_value w (a_formula (sign_truths w o (true_in s))) (keeps_over_one w own o x s work list hx))

  keeps_denied : (own at : ℕ) (a : Value) (s : Sense) (work : Work) → IsGood top work.formulas → Alike w work.formulas a s
      → Keeps top work.formulas (λ v nodes. Alike w nodes v (senses.opposite s)) (denied own at a work)
  keeps_denied own at a s work list ha = keeps_formula_in w at a s _ work _ ha (λ x hx. keeps_as_value w (senses.opposite s) (keeps_opposed w own x s work list hx))

  pub keeps_prefixed : (o : Op) (own at : ℕ) (a : Value) (s : Sense) (work : Work) → IsGood top work.formulas → Alike w work.formulas a s
      → Keeps top work.formulas (λ v nodes. Alike w nodes v (senses.prefixed w o s)) (prefixed o own at a work)
  keeps_prefixed op.Not own at a s work list ha = keeps_denied own at a s work list ha
  keeps_prefixed op.Next own at a s work list ha = keeps_signed sign.Next own at a s work list ha
  keeps_prefixed op.Finally own at a s work list ha = keeps_signed sign.Finally own at a s work list ha
  keeps_prefixed op.Globally own at a s work list ha = keeps_signed sign.Globally own at a s work list ha
  keeps_prefixed _ own at a s work list ha = refuses _ _
