-- The values of AIGER's literals.
use Rattle.std.proofs.Common.{◌≡◌, ℕ, zero, suc, ◌+◌, ◌-◌, ◌*◌, ◌/◌, ◌%◌, ◌<◌, ◌≤◌, Bool, true, false, not, eqb, refl, sym, ap, subst, ◌∙◌, arith}
use Rattle.std.proofs.Math.Nat.{div-add-mod, mod-lt}
use Rattle.std.proofs.lemmas.Bool.{cond-true, cond-false, eq-eqb, ne_eqb}
use Rattle.aiger_text.specs.Circuit.{Valuation, variable_value, literal_value}
use Rattle.truth_witness.specs.Clauses.{opposite}

pub double_mod : (v : ℕ) → (2 * v) % 2 ≡ 0
double_mod v =
    let d : 2 * ((2 * v) / 2) + (2 * v) % 2 ≡ 2 * v = div-add-mod (2 * v) 2 in
    let m : (2 * v) % 2 < 2 = mod-lt (2 * v) (omega arith) in
    omega arith

pub double_div : (v : ℕ) → (2 * v) / 2 ≡ v
double_div v =
    let d : 2 * ((2 * v) / 2) + (2 * v) % 2 ≡ 2 * v = div-add-mod (2 * v) 2 in
    let m : (2 * v) % 2 < 2 = mod-lt (2 * v) (omega arith) in
    omega arith

pub odd_mod : (v : ℕ) → (2 * v + 1) % 2 ≡ 1
odd_mod v =
    let d : 2 * ((2 * v + 1) / 2) + (2 * v + 1) % 2 ≡ 2 * v + 1 = div-add-mod (2 * v + 1) 2 in
    let m : (2 * v + 1) % 2 < 2 = mod-lt (2 * v + 1) (omega arith) in
    omega arith

pub odd_div : (v : ℕ) → (2 * v + 1) / 2 ≡ v
odd_div v =
    let d : 2 * ((2 * v + 1) / 2) + (2 * v + 1) % 2 ≡ 2 * v + 1 = div-add-mod (2 * v + 1) 2 in
    let m : (2 * v + 1) % 2 < 2 = mod-lt (2 * v + 1) (omega arith) in
    omega arith

-- a literal is a variable, or the opposite of one
pub data Form (l : ℕ) : Type 0 where
  is_even : (v : ℕ) → l ≡ 2 * v → Form l
  is_odd : (v : ℕ) → l ≡ 2 * v + 1 → Form l

pub form_of : (l : ℕ) → Form l
form_of l = by (l % 2) refl (mod-lt l (omega arith))
  where
    by : (r : ℕ) → l % 2 ≡ r → r < 2 → Form l
    by zero e small = is_even (l / 2) (let d : 2 * (l / 2) + l % 2 ≡ l = div-add-mod l 2 in omega arith)
    by (suc zero) e small = is_odd (l / 2) (let d : 2 * (l / 2) + l % 2 ≡ l = div-add-mod l 2 in omega arith)
    by (suc (suc r)) e small = absurd (omega arith)

module _ (values : Valuation) where
  pub value_even : (v : ℕ) → literal_value values (2 * v) ≡ variable_value values v
  value_even v =
      cond-true (eqb ((2 * v) % 2) 0) (variable_value values ((2 * v) / 2)) (not (variable_value values ((2 * v) / 2))) (eq-eqb ((2 * v) % 2) 0 (double_mod v))
      ∙ ap (variable_value values) (double_div v)

  pub value_odd : (v : ℕ) → literal_value values (2 * v + 1) ≡ not (variable_value values v)
  value_odd v =
      let one : (2 * v + 1) % 2 ≡ 1 = odd_mod v in
      cond-false (eqb ((2 * v + 1) % 2) 0) (variable_value values ((2 * v + 1) / 2)) (not (variable_value values ((2 * v + 1) / 2)))
      (ne_eqb ((2 * v + 1) % 2) 0 (λ (none : (2 * v + 1) % 2 ≡ 0). omega arith))
      ∙ ap (λ u. not (variable_value values u)) (odd_div v)

pub opposite_even : (v : ℕ) → opposite (2 * v) ≡ 2 * v + 1
opposite_even v = cond-true (eqb ((2 * v) % 2) 0) (2 * v + 1) (2 * v - 1) (eq-eqb ((2 * v) % 2) 0 (double_mod v))

pub opposite_odd : (v : ℕ) → opposite (2 * v + 1) ≡ 2 * v
opposite_odd v =
    let one : (2 * v + 1) % 2 ≡ 1 = odd_mod v in
    cond-false (eqb ((2 * v + 1) % 2) 0) (2 * v + 1 + 1) (2 * v + 1 - 1) (ne_eqb ((2 * v + 1) % 2) 0 (λ (none : (2 * v + 1) % 2 ≡ 0). omega arith))
    ∙ (let e : 2 * v + 1 - 1 ≡ 2 * v = omega arith in e)

not_twice : (b : Bool) → b ≡ not (not b)
not_twice true = refl
not_twice false = refl

-- the opposite literal has the opposite value
pub value_opposite : (values : Valuation) (l : ℕ) → literal_value values (opposite l) ≡ not (literal_value values l)
value_opposite values l = by (form_of l)
  where
    by : Form l → literal_value values (opposite l) ≡ not (literal_value values l)
    by (is_even v e) =
        subst (λ k. literal_value values (opposite k) ≡ not (literal_value values k)) (sym e)
        (ap (literal_value values) (opposite_even v) ∙ value_odd values v ∙ ap not (sym (value_even values v)))
    by (is_odd v e) =
        subst (λ k. literal_value values (opposite k) ≡ not (literal_value values k)) (sym e)
        (ap (literal_value values) (opposite_odd v) ∙ value_even values v ∙ not_twice (variable_value values v) ∙ ap not (sym (value_odd values v)))

-- the opposite of a literal is at most the same odd number
pub opposite_within : (n l : ℕ) → l ≤ 2 * n + 1 → opposite l ≤ 2 * n + 1
opposite_within n l h = by (form_of l)
  where
    by : Form l → opposite l ≤ 2 * n + 1
    by (is_even v e) = let k : l ≡ 2 * v = e in let o : opposite l ≡ 2 * v + 1 = ap opposite e ∙ opposite_even v in omega arith
    by (is_odd v e) = let k : l ≡ 2 * v + 1 = e in let o : opposite l ≡ 2 * v = ap opposite e ∙ opposite_odd v in omega arith

-- two valuations agree on a literal where they agree on its variable
pub value_agrees : (v w : Valuation) (n l : ℕ) → l ≤ 2 * n + 1 → ((u : ℕ) → u ≤ n → variable_value v u ≡ variable_value w u) → literal_value v l ≡ literal_value w l
value_agrees v w n l h same = by (form_of l)
  where
    by : Form l → literal_value v l ≡ literal_value w l
    by (is_even u e) =
        let k : l ≡ 2 * u = e in
        subst (λ j. literal_value v j ≡ literal_value w j) (sym e) (value_even v u ∙ same u (omega arith) ∙ sym (value_even w u))
    by (is_odd u e) =
        let k : l ≡ 2 * u + 1 = e in
        subst (λ j. literal_value v j ≡ literal_value w j) (sym e) (value_odd v u ∙ ap not (same u (omega arith)) ∙ sym (value_odd w u))
