-- Numbers that are stepped through.
use Rattle.std.proofs.Common.{◌≡◌, ℕ, suc, ◌-◌, ◌/◌, ◌<◌, Bool, true, false, cond, ltb, List, [], ◌∷◌, ◌++◌, ℤ, Option, Some, pos, ◌+ℤ◌, ◌-ℤ◌, refl, sym, ap, ◌∙◌, arith}
use Rattle.std.proofs.lemmas.List.{append_assoc}
use Rattle.std.specs.Prelude.{unsigned_abs}
use Rattle.std.specs.Ordering.{int_eq}
use Rattle.std.proofs.Math.Nat.{div-eq_of_lt, div-eq-sub-div}
use Rattle.std.proofs.lemmas.Bool.{ltb-true, ltb-false}
use Rattle.std.proofs.lemmas.Int.{ints}
use Rattle.std.proofs.lemmas.Grind.{common_steps}
use Rattle.tlsf_values.specs.Steps.{numbers_from, passes, left_from, rest_from, those_from, step_count, stepped}
use Rattle.tlsf_values.specs.Outcomes.{counted, gives}
use Rattle.tlsf_values.specs.Values.{steps_value}
use Rattle.tlsf_values.specs.Sets.{set_of}
use Rattle.tlsf_values.specs.declared.work.Work.{Work}
use Rattle.tlsf_values.specs.declared.value.Value.{Value}
use Rattle.tlsf_values.specs.declared.value.Value.TheVariants.{Set}

pub divided : (d s : ℕ) → 0 < s → d / s ≡ cond (ltb d s) 0 (suc ((d - s) / s))
divided d s some = by (ltb d s) refl
  where
    by : (b : Bool) → ltb d s ≡ b → d / s ≡ cond b 0 (suc ((d - s) / s))
    by true e = div-eq_of_lt (ltb-true d s e)
    by false e = div-eq-sub-div some (ltb-false d s e) ∙ omega arith

pub nonzero : (z : ℤ) → int_eq z (pos 0) ≡ false → 0 < unsigned_abs z
nonzero z e = grind (arith, ints)

-- one step further the last number is passed where it is nearer than a step
crosses : (z step last : ℤ) → passes z step last ≡ false → passes (z +ℤ step) step last ≡ ltb (unsigned_abs (last -ℤ z)) (unsigned_abs step)
crosses z step last here = grind (arith, ints, common_steps)

nearer : (z step last : ℤ) → passes z step last ≡ false → ltb (unsigned_abs (last -ℤ z)) (unsigned_abs step) ≡ false →
    unsigned_abs (last -ℤ (z +ℤ step)) ≡ unsigned_abs (last -ℤ z) - unsigned_abs step
nearer z step last here more = grind (arith, ints, common_steps)

-- the first number that is left, and then those from the next one on
pub left_step : (z step last : ℤ) → int_eq step (pos 0) ≡ false → passes z step last ≡ false → left_from z step last ≡ suc (left_from (z +ℤ step) step last)
left_step z step last some here =
    ap (λ b. cond b 0 (suc (d / s))) here ∙ ap suc (divided d s (nonzero step some) ∙ by (ltb d s) refl)
  where
    d : ℕ
    d = unsigned_abs (last -ℤ z)

    s : ℕ
    s = unsigned_abs step

    next : ℕ
    next = unsigned_abs (last -ℤ (z +ℤ step)) / s

    crossed : passes (z +ℤ step) step last ≡ ltb d s
    crossed = crosses z step last here

    by : (b : Bool) → ltb d s ≡ b → cond b 0 (suc ((d - s) / s)) ≡ left_from (z +ℤ step) step last
    by true e = sym (ap (λ b. cond b 0 (suc next)) (crossed ∙ e))
    by false e = ap (λ n. suc (n / s)) (sym (nearer z step last here e)) ∙ sym (ap (λ b. cond b 0 (suc next)) (crossed ∙ e))

pub rest_step : (z step last : ℤ) → int_eq step (pos 0) ≡ false → passes z step last ≡ false → rest_from z step last ≡ z ∷ rest_from (z +ℤ step) step last
rest_step z step last some here = ap (numbers_from z step) (left_step z step last some here)

pub step_some : (first second : ℤ) → int_eq first second ≡ false → int_eq (second -ℤ first) (pos 0) ≡ false
step_some first second e = grind (arith, ints)

-- ---- the numbers of a written set

-- one more number of those that are stepped through is laid out
pub laid_more : (rest numbers more : List ℤ) (z step last : ℤ) (next : Option ℤ) → rest ≡ numbers ++ those_from step last (Some z) → more ≡ numbers ++ z ∷ []
    → rest_from (z +ℤ step) step last ≡ those_from step last next → rest ≡ more ++ those_from step last next
laid_more rest numbers more z step last next was is after =
    was ∙ ap (λ xs. numbers ++ z ∷ xs) after ∙ sym (append_assoc numbers (z ∷ []) (those_from step last next)) ∙ ap (λ xs. xs ++ those_from step last next) (sym is)

-- all numbers are laid out and make the set
pub stepped_set : (place : ℕ) (a b c : ℤ) (w counted_work : Work) (v : Value) (zs : List ℤ) → int_eq a b ≡ false → counted place (step_count a b c) w ≡ gives tt counted_work → zs ≡ stepped a b c
    → v ≡ Set (set_of zs) → steps_value place a b c w ≡ gives v counted_work
stepped_set place a b c w counted_work v zs differ count laid is = rw (differ, count, is, laid) refl
