-- Two frames and the literals that compare ranks, as one valuation.
use Rattle.std.proofs.Common.{◌≡◌, ℕ, zero, suc, ◌+◌, ◌-◌, ◌*◌, ◌<◌, ◌≤◌, not, cond, refl, sym, ap, ◌∙◌, arith}
use Rattle.std.specs.Prelude.{nat_lt}
use Rattle.std.proofs.lemmas.Bool.{cond-true, cond-false, lt-ltb, le-ltb}
use Rattle.aiger_text.specs.Circuit.{Valuation, variable_value, literal_value}
use Rattle.truth_witness.proofs.Values.{Form, form_of, value_even, value_odd, value_agrees}
use Rattle.truth_witness.proofs.Values.Form.{is_even, is_odd}

-- the variables up to n are those of this position, the n behind them those of the next, and then come others
abbrev pub pair : ℕ → Valuation → Valuation → Valuation → Valuation
pair n here next rises v = cond (nat_lt v (n + 1)) (here v) (cond (nat_lt v (2 * n + 1)) (next (v - n)) (rises (v - (2 * n + 1))))

module _ (n : ℕ) (here next rises : Valuation) where
  abbrev both : Valuation
  both = pair n here next rises

  pub pair_here : (l : ℕ) → l ≤ 2 * n + 1 → literal_value both l ≡ literal_value here l
  pair_here l h = value_agrees both here n l h same
    where
      same : (u : ℕ) → u ≤ n → variable_value both u ≡ variable_value here u
      same zero low = refl
      same (suc u) low = cond-true (nat_lt (suc u) (n + 1)) (here (suc u)) (cond (nat_lt (suc u) (2 * n + 1)) (next (suc u - n)) (rises (suc u - (2 * n + 1)))) (lt-ltb (suc u) (n + 1) (omega arith))

  second : (u : ℕ) → 0 < u → u ≤ n → both (u + n) ≡ next u
  second u low high =
      let e : u + n - n ≡ u = omega arith in
      cond-false (nat_lt (u + n) (n + 1)) (here (u + n)) (cond (nat_lt (u + n) (2 * n + 1)) (next (u + n - n)) (rises (u + n - (2 * n + 1)))) (le-ltb (u + n) (n + 1) (omega arith))
      ∙ cond-true (nat_lt (u + n) (2 * n + 1)) (next (u + n - n)) (rises (u + n - (2 * n + 1))) (lt-ltb (u + n) (2 * n + 1) (omega arith))
      ∙ ap next e

  variable_second : (u : ℕ) → 0 < u → u ≤ n → variable_value both (u + n) ≡ variable_value next u
  variable_second zero low high = absurd (omega arith)
  variable_second (suc u) low high =
      let e : suc u + n ≡ suc (u + n) = omega arith in
      ap (variable_value both) e ∙ ap both (sym e) ∙ second (suc u) low high

  abbrev shift : ℕ → ℕ
  shift l = cond (nat_lt l 2) l (l + 2 * n)

  pub pair_next : (l : ℕ) → l ≤ 2 * n + 1 → literal_value both (shift l) ≡ literal_value next l
  pair_next zero h = refl
  pair_next (suc zero) h = refl
  pair_next (suc (suc k)) h = by (form_of (suc (suc k)))
    where
      moved : shift (suc (suc k)) ≡ suc (suc k) + 2 * n
      moved = cond-false (nat_lt (suc (suc k)) 2) (suc (suc k)) (suc (suc k) + 2 * n) (le-ltb (suc (suc k)) 2 (omega arith))

      by : Form (suc (suc k)) → literal_value both (shift (suc (suc k))) ≡ literal_value next (suc (suc k))
      by (is_even u e) =
          let there : suc (suc k) ≡ 2 * u = e in
          let place : suc (suc k) + 2 * n ≡ 2 * (u + n) = omega arith in
          ap (literal_value both) (moved ∙ place) ∙ value_even both (u + n) ∙ variable_second u (omega arith) (omega arith) ∙ sym (value_even next u)
          ∙ ap (literal_value next) (sym there)
      by (is_odd u e) =
          let there : suc (suc k) ≡ 2 * u + 1 = e in
          let place : suc (suc k) + 2 * n ≡ 2 * (u + n) + 1 = omega arith in
          ap (literal_value both) (moved ∙ place) ∙ value_odd both (u + n) ∙ ap not (variable_second u (omega arith) (omega arith)) ∙ sym (value_odd next u)
          ∙ ap (literal_value next) (sym there)

  pub pair_rise : (i : ℕ) → literal_value both (2 * (2 * n + 1 + i)) ≡ rises i
  pair_rise i =
      let v : ℕ = 2 * n + 1 + i in
      let one : 2 * n + 1 + i ≡ suc (2 * n + i) = omega arith in
      let e : 2 * n + 1 + i - (2 * n + 1) ≡ i = omega arith in
      value_even both (2 * n + 1 + i)
      ∙ ap (variable_value both) one ∙ ap both (sym one)
      ∙ cond-false (nat_lt v (n + 1)) (here v) (cond (nat_lt v (2 * n + 1)) (next (v - n)) (rises (v - (2 * n + 1)))) (le-ltb v (n + 1) (omega arith))
      ∙ cond-false (nat_lt v (2 * n + 1)) (next (v - n)) (rises (v - (2 * n + 1))) (le-ltb v (2 * n + 1) (omega arith))
      ∙ ap rises e
